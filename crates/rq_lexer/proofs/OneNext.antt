-- The tokens that are still to come leave one answer.
use Rattle.std.proofs.Common.{◌≡◌, List, Option, Some, None, Ok}
use Rattle.rq_lexer.specs.declared.placed.Placed.{Placed}
use Rattle.rq_lexer.specs.Facts.{IsNext}

pub one_next : (old new new' : List Placed) (o o' : Option Placed) → IsNext old new (Ok o) → IsNext old new' (Ok o') → (o ≡ o') × (new ≡ new')
one_next old new new' (Some p) (Some p') h k = (cc, cc)
one_next old new new' (Some p) None h k = absurd (cc)
one_next old new new' None (Some p') h k = absurd (cc)
one_next old new new' None None h k = (cc, cc)
