-- The examples compute.
use Rattle.std.proofs.Common.{◌≡◌, Ok, Err, refl}
use Rattle.rq_automaton.specs.Machine.{parse, step, finish, done, ended_on, end_on, clause_on, Start}
use Rattle.rq_automaton.specs.Places.{place_step, create_step, drop_step, insert_step, update_step, delete_step, select_step, place_finish}
use Rattle.rq_automaton.specs.Examples.{selecting, selects, two_minuses, left_first, sum_of_product, tightest_first, signs, minus_of_literal, plus_not, sum_behind_list}

pub left : parse Start (selecting two_minuses) ≡ Ok (selects left_first)
unfolding parse step finish done ended_on end_on clause_on place_step create_step drop_step insert_step update_step delete_step select_step place_finish
left = refl

pub tightest : parse Start (selecting sum_of_product) ≡ Ok (selects tightest_first)
unfolding parse step finish done ended_on end_on clause_on place_step create_step drop_step insert_step update_step delete_step select_step place_finish
tightest = refl

pub signed : parse Start (selecting signs) ≡ Ok (selects minus_of_literal)
unfolding parse step finish done ended_on end_on clause_on place_step create_step drop_step insert_step update_step delete_step select_step place_finish
signed = refl

pub no_not : parse Start (selecting plus_not) ≡ Err 2
unfolding parse step finish done ended_on end_on clause_on place_step create_step drop_step insert_step update_step delete_step select_step place_finish
no_not = refl

pub no_sum : parse Start (selecting sum_behind_list) ≡ Err 6
unfolding parse step finish done ended_on end_on clause_on place_step create_step drop_step insert_step update_step delete_step select_step place_finish
no_sum = refl
