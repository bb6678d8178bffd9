use Rattle.std.proofs.Common.{◌∙◌, List, ℕ, [], ◌∷◌, ◌++◌, refl, ap, arith}
use Rattle.rq_values.specs.Text.{is_addr}
use Rattle.rq_node.proofs.Addresses.{port_of_id}
use Rattle.rq_node.proofs.node.opening.first_base.Goals as goal

pub address-requires : goal.address-requires
address-requires c =
    record {
      port = ap (λ (name : List ℕ). is_addr (name ++ 58 ∷ 52 ∷ 48 ∷ 48 ∷ 49 ∷ [])) c.bytes-name.ensures.bytes
          ∙ port_of_id c.args.id (58 ∷ 52 ∷ 48 ∷ 48 ∷ 49 ∷ []) c.bytes-name.ensures.id refl (omega arith);
    }

pub address-requires-2 : goal.address-requires-2
address-requires-2 c =
    record {
      port = ap (λ (name : List ℕ). is_addr (name ++ 58 ∷ 52 ∷ 48 ∷ 48 ∷ 50 ∷ [])) c.bytes-name.ensures.bytes
          ∙ port_of_id c.args.id (58 ∷ 52 ∷ 48 ∷ 48 ∷ 50 ∷ []) c.bytes-name.ensures.id refl (omega arith);
    }
