use Rattle.std.proofs.Common.{All, List, ℕ, sym, subst}
use Rattle.rq_wal.specs.Gate.{IsPiece}
use Rattle.rq_wal.proofs.Framed.{all_pieces}
use Rattle.rq_wal.proofs.file.WalFile.ready.Goals as goal

pub invariant_of-result : goal.invariant_of-result
invariant_of-result g c = subst (λ (ps : List (List ℕ)). All IsPiece ps) (sym c.in_ok-pieces.ensures) (all_pieces c.args.frames.now)
