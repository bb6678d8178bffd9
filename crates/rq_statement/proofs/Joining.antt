-- What is seen of one expression after the other.
use Rattle.std.proofs.Common.{◌≡◌, refl}
use Rattle.rq_statement.specs.declared.sight.Sight.{Sight}
use Rattle.rq_statement.specs.declared.sight.Sight.TheVariants.{Now, Fixed, Open}
use Rattle.rq_statement.specs.Sights.{both}

pub both_in_turn : (a b c : Sight) → both (both a b) c ≡ both a (both b c)
both_in_turn Fixed b c = refl
both_in_turn Open b c = refl
both_in_turn Now Open c = refl
both_in_turn Now Fixed c = refl
both_in_turn Now Now Open = refl
both_in_turn Now Now Now = refl
both_in_turn Now Now Fixed = refl

pub both_fixed : (a : Sight) → both a Fixed ≡ a
both_fixed Fixed = refl
both_fixed Open = refl
both_fixed Now = refl
