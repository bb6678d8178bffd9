-- What all lemmas are told: how entries are read, the first configuration, and the laws of histories, which the public functions call.
use Rattle.std.proofs.Common.{◌≡◌, ℕ, ◌≤◌, List, Option, Some, None, length, take, refl, sym, subst, ◌∙◌, ⊎_elim}
use Rattle.rq_wire.specs.declared.config.Member.{Member}
use Rattle.rq_history.specs.History.{NodeId, Node, History, Was, WasBefore, Led, entry_at}
use Rattle.rq_history.specs.Configurations.{configuration_index, voters_in, newest_voters}
use Rattle.rq_history.specs.Laws.{OneLeaderATerm, LogsMatch, LeadersGrow, LeadersAgree, CommitsAreBacked, MomentsAreOrdered, ChangesAreLocal, IsRun}
use Rattle.rq_raft.specs.Entries.{Entries, AreRight, voters, entry_view, members_in, members_or, configuration}
use Rattle.rq_raft.proofs.Logs.{prefix_same}

pub record Given (E : Type 0) : Type 0 where
  pub entries : Entries E
  pub first : List Member
  pub right : AreRight entries
  pub one_leader : OneLeaderATerm (entry_view entries)
  pub logs_match : LogsMatch (entry_view entries)
  pub leaders_grow : LeadersGrow (entry_view entries)
  pub leaders_agree : LeadersAgree (entry_view entries)
  pub commits_are_backed : CommitsAreBacked (entry_view entries)
  pub moments : MomentsAreOrdered E
  pub local : ChangesAreLocal E

module _ {E : Type 0} (g : Given E) where
  abbrev pub Run : History E → Type 0
  Run h = IsRun (entry_view g.entries) (voters g.first) h

  -- the voters of the rules are those of the theory
  pub same_voters : (log : List E) → voters (configuration g.entries g.first log) ≡ newest_voters (entry_view g.entries) (voters g.first) log
  same_voters log = at (entry_at log (configuration_index (entry_view g.entries) log))
    where
      of : (o : Option (List Member)) → voters (members_or g.first o) ≡ Rattle.rq_history.specs.Configurations.voters_or (voters g.first) (Rattle.std.specs.Option.option_map voters o)
      of None = refl
      of (Some members) = refl

      at : (o : Option E) → voters (members_or g.first (members_in g.entries o)) ≡ Rattle.rq_history.specs.Configurations.voters_or (voters g.first) (voters_in (entry_view g.entries) o)
      at None = refl
      at (Some e) = of (g.entries.members_of e)

  -- two logs of leaders of one term are the same as far as both go
  pub led_same : (h : History E) → Run h → (i j : NodeId) (term : ℕ) (x y : Node E) → Led h i term x → Led h j term y → (n : ℕ) → n ≤ length x.log → n ≤ length y.log → take n x.log ≡ take n y.log
  led_same h l i j term x y p q n a b =
      let e = g.one_leader (voters g.first) h l i j term x y p q in
      let wy : Was h i y = subst (λ (k : NodeId). Was h k y) (sym e) q.was in
      ⊎_elim
      (λ (o : WasBefore h i x y). prefix_same x.log y.log n a ((g.leaders_grow (voters g.first) h l i x y o p.leads q.leads (p.in_term ∙ sym q.in_term)).0))
      (λ (o : WasBefore h i y x). sym (prefix_same y.log x.log n b ((g.leaders_grow (voters g.first) h l i y x o q.leads p.leads (q.in_term ∙ sym p.in_term)).0)))
      ((g.moments h i).1 x y p.was wy)
