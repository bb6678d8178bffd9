use Rattle.std.proofs.Common.{ℕ, Bool, true, false, ◌≡◌, ◌≤◌, ◌+◌, sym, ◌∙◌, arith}
use Rattle.std.specs.Prelude.{◌==◌}
use Rattle.std.proofs.lemmas.Bool.Decides.{nat_tests}
use Rattle.rq_lexer.proofs.Cut.{takes, takes_nothing, takes_within, taken}
use Rattle.rq_lexer.proofs.lexer.Lexer.next_token.Goals as goal

none : (b : Bool) (n : ℕ) → b ≡ (n == 0) → b ≡ true → n ≡ 0
none b n e h = grind (arith, nat_tests)

some : (b : Bool) (n : ℕ) → b ≡ (n == 0) → b ≡ false → 1 ≤ n
some b n e h = grind (arith, nat_tests)

pub returns-then-is_empty-clause-next : goal.returns-then-is_empty-clause-next
returns-then-is_empty-clause-next c =
    let gone = sym c.self.view_is ∙ takes_nothing c.self.inside.text.now c.from_place-behind.result.now c.from_place-rest.result.now c.self.inside.at c.blanks_len-blanks.result c.from_place-behind.ensures c.from_place-rest.ensures c.blanks_len-blanks.ensures.same (none _ _ c.is_empty.ensures c.if-is_empty.true) in
    (gone, gone)

pub overflow_add-end : goal.overflow_add-end
overflow_add-end c =
    let within = takes_within c.self.inside.text.now c.from_place-behind.result.now c.from_place-rest.result.now c.self.inside.at c.blanks_len-blanks.result c.in_ok-token.token c.in_ok-token.len c.self.invariant c.from_place-behind.ensures c.blanks_len-blanks.ensures.within c.from_place-rest.ensures (some _ _ c.is_empty.ensures c.if-is_empty.false) c.in_ok-token.ensures in
    omega arith

pub invariant_of-self : goal.invariant_of-self
invariant_of-self c =
    takes_within c.self.inside.text.now c.from_place-behind.result.now c.from_place-rest.result.now c.self.inside.at c.blanks_len-blanks.result c.in_ok-token.token c.in_ok-token.len c.self.invariant c.from_place-behind.ensures c.blanks_len-blanks.ensures.within c.from_place-rest.ensures (some _ _ c.is_empty.ensures c.if-is_empty.false) c.in_ok-token.ensures

pub returns-clause-next : goal.returns-clause-next
returns-clause-next c =
    sym c.self.view_is ∙ takes c.self.inside.text.now c.from_place-behind.result.now c.from_place-rest.result.now c.self.inside.at c.blanks_len-blanks.result c.in_ok-token.token c.in_ok-token.len c.from_place-behind.ensures c.from_place-rest.ensures c.blanks_len-blanks.ensures.same c.blanks_len-blanks.ensures.stops (some _ _ c.is_empty.ensures c.if-is_empty.false) c.in_ok-token.ensures

pub returns-clause-token : goal.returns-clause-token
returns-clause-token c = taken c.from_place-rest.result.now (c.self.inside.at + c.blanks_len-blanks.result) c.in_ok-token.token c.in_ok-token.len (some _ _ c.is_empty.ensures c.if-is_empty.false) c.in_ok-token.ensures
