-- The laws, each from the lemma that proves it.
use Rattle.std.proofs.Common.{◌≡◌, ap, ◌⊎◌, ℕ, ◌<◌, ◌≤◌, take, refl, sym, subst, ◌∙◌, inl, inr, ⊎_elim, arith}
use Rattle.std.proofs.lemmas.Bool.{cases_lt}
use Rattle.rq_history.specs.History.{NodeId, EntryView, After, now, Was, Led, term_at}
use Rattle.rq_history.specs.Configurations.{newest_voters}
use Rattle.rq_history.specs.Votes.{Election}
use Rattle.rq_history.specs.Commits.{Backing}
use Rattle.rq_history.specs.Laws.{OneLeaderATerm, OneVoteATerm, TimeGoesOn, LogsMatch, EntriesComeFromLeaders, TermsRise, TermsAreReached, LeadersGrow, LeadersDontStandAgain, VotesTell, LeadersAreElected, LeadersAreComplete, CommitsAreBacked, CommittedStays, LeadersAgree, CommittedPrefixesAgree, ChosenGrows, ChosenHolds, ChosenWasCommitted, LeadersCover, LaterEntriesCover, NeighboursMeet, ConfigurationsCountFromAppend, MeetingQuorumsSuffice, MomentsAreOrdered, ChangesAreLocal}
use Rattle.rq_history.proofs.Claims.{Whole}
use Rattle.rq_history.proofs.Logs.{same_less, term_same, prefix_fits}
use Rattle.rq_history.proofs.Quorums.{one_more, one_less}
use Rattle.rq_history.proofs.Moments as Moments
use Rattle.rq_history.proofs.Votes as Votes
use Rattle.rq_history.proofs.Growth as Growth
use Rattle.rq_history.proofs.Terms as Terms
use Rattle.rq_history.proofs.Origins as Origins
use Rattle.rq_history.proofs.Ballots as Ballots
use Rattle.rq_history.proofs.Backed as Backed
use Rattle.rq_history.proofs.Chosen as Chosen
use Rattle.rq_history.proofs.Sounds as Sounds
use Rattle.rq_history.proofs.Changing as Changing
use Rattle.rq_history.proofs.Configs as Configs
use Rattle.std.specs.Prelude.{Option, Some, None, List, ◌∷◌, ◌++◌, []}
use Rattle.rq_history.specs.Configurations.{is_given, voters_or}
use Rattle.rq_history.proofs.Passes as Passes

pub neighbours_meet : NeighboursMeet
neighbours_meet before after v = (one_more before after v, one_less before after v)

pub moments_are_ordered : {E : Type 0} → MomentsAreOrdered E
moments_are_ordered h i = (Moments.was_now h i, Moments.ordered h i, Moments.before_now h i)

pub changes_are_local : {E : Type 0} → ChangesAreLocal E
changes_are_local h k i y = Moments.now_after h k i y

pub chosen_was_committed : {E : Type 0} → ChosenWasCommitted E
chosen_was_committed h = let c = Chosen.chosen_was h in (c.who, c.node, c.was, c.same)

module _ {E : Type 0} (view : EntryView E) where
  pub one_leader : OneLeaderATerm view
  one_leader first h l = (Changing.whole view first h l).0.1

  pub one_vote : OneVoteATerm view
  one_vote first h l = Votes.one_vote view (newest_voters view first) h l

  pub time_goes_on : TimeGoesOn view
  time_goes_on first h l i a b before = let o = Votes.older2 view (newest_voters view first) h l i a b before in (o.term, o.vote)

  pub logs_match : LogsMatch view
  logs_match first h l = Origins.matching view (newest_voters view first) h (Changing.whole view first h l).0

  pub entries_come_from_leaders : EntriesComeFromLeaders view
  entries_come_from_leaders first h l = Origins.origins view (newest_voters view first) h l

  pub terms_rise : TermsRise view
  terms_rise first h l = Terms.sorted view (newest_voters view first) h l

  pub terms_are_reached : TermsAreReached view
  terms_are_reached first h l i x was = (Terms.below view (newest_voters view first) h l i x was).terms

  pub leaders_grow : LeadersGrow view
  leaders_grow first h l i a b before p q t = let g = Growth.grows view (newest_voters view first) h l i a b before p q t in (g.log, g.commit)

  pub leaders_do_not_stand_again : LeadersDontStandAgain view
  leaders_do_not_stand_again first h l i a b before p t = Growth.no_return_later view (newest_voters view first) h l i a b before p t

  pub votes_tell : VotesTell view
  votes_tell first h l = Ballots.cast_of view (newest_voters view first) h (Changing.whole view first h l).0

  pub leaders_are_elected : LeadersAreElected view
  leaders_are_elected first h l i term x led =
      subst (λ (t : ℕ). Election view (newest_voters view first) h i t x.log) led.in_term (Ballots.elections view (newest_voters view first) h (Changing.whole view first h l).0 i x led.was led.leads)

  pub leaders_are_complete : LeadersAreComplete view
  leaders_are_complete first h l = (Changing.whole view first h l).1

  pub commits_are_backed : CommitsAreBacked view
  commits_are_backed first h l = Backed.backed view (newest_voters view first) h (Changing.whole view first h l)

  pub leaders_agree : LeadersAgree view
  leaders_agree first h l i j x z u n was led le small fits =
      let w = Changing.whole view first h l in
      ⊎_elim
      (λ (none : x.commit ≡ 0). let e : n ≡ 0 = omega arith in rw e refl)
      (λ (g : Backing view (newest_voters view first) h x). Backed.agree view (newest_voters view first) h w j u n x z g led le small fits)
      (Backed.backed view (newest_voters view first) h w i x was).by_leader

  pub committed_stays : CommittedStays view
  committed_stays first h l i j x z u was led lt =
      let w = Changing.whole view first h l in
      ⊎_elim
      (λ (none : x.commit ≡ 0). rw none refl)
      (λ (g : Backing view (newest_voters view first) h x).
      let has = w.1 g.term g.n u j g.leader z g.direct led (omega (arith, g.not_later)) in
      cc (same_less z.log g.leader.log g.n x.commit g.covers has, g.same))
      (Backed.backed view (newest_voters view first) h w i x was).by_leader

  pub committed_prefixes_agree : CommittedPrefixesAgree view
  committed_prefixes_agree first h l = Chosen.prefixes view (newest_voters view first) h (Changing.whole view first h l)

  pub chosen_grows : ChosenGrows view
  chosen_grows first h k y l = Chosen.chosen_grows view (newest_voters view first) h k y (Changing.whole view first (After h k y) l)

  pub chosen_holds : ChosenHolds view
  chosen_holds first h l = Chosen.in_chosen view (newest_voters view first) h (Changing.whole view first h l)

  pub configurations_count_from_append : ConfigurationsCountFromAppend view
  configurations_count_from_append first log e = go (view.voters_of e) refl
    where
      go : (o : Option (List NodeId)) → view.voters_of e ≡ o → newest_voters view first (log ++ e ∷ []) ≡ voters_or (newest_voters view first log) (view.voters_of e)
      go None is = Configs.voters_stay view first log e (ap is_given is) ∙ sym (ap (voters_or (newest_voters view first log)) is)
      go (Some vs) is = Configs.voters_pushed view first log e (ap is_given is) ∙ ap (voters_or first) is ∙ sym (ap (voters_or (newest_voters view first log)) is)

  pub meeting_quorums_suffice : MeetingQuorumsSuffice view
  meeting_quorums_suffice voters meet h l = let w = Sounds.whole view voters h meet l in (w.0.1, w.1)

  pub leaders_cover : LeadersCover view
  leaders_cover first early late le ll sub i term leads confirmed from some own j x was =
      Passes.covers view first early late (Changing.whole view first early le) (Changing.whole view first late ll) sub i term leads.0 leads.1 leads.2 leads.3 confirmed from some own j x was

  pub later_entries_cover : LaterEntriesCover view
  later_entries_cover first early late le ll sub i term lead in_term k y n wy committed own new j x wx = ⊎_elim (λ (lt : x.commit < n). lt) (λ (ge : n ≤ x.commit). absurd (no_way ge)) (cases_lt x.commit n)
    where
      both : (Whole view (newest_voters view first) late) → (x.commit ≡ 0) ⊎ Backing view (newest_voters view first) late x → (y.commit ≡ 0) ⊎ Backing view (newest_voters view first) late y → n ≤ x.commit → take n x.log ≡ take n y.log
      both w (inl z) q ge = absurd (omega arith)
      both w (inr p) (inl z) ge = absurd (omega arith)
      both w (inr p) (inr q) ge = Backed.same_committed view (newest_voters view first) late w x y p q n ge committed

      no_way : n ≤ x.commit → Prim.⊥
      no_way ge =
          let w = Changing.whole view first late ll in
          let w0 = Changing.whole view first early le in
          let bx = Backed.backed view (newest_voters view first) late w j x (sub j x wx) in
          let by = Backed.backed view (newest_voters view first) late w k y wy in
          let same = both w bx.by_leader by.by_leader ge in
          let term_is : term_at view x.log n ≡ term = term_same view x.log y.log n n (omega arith) same ∙ own in
          let o = Origins.origins view (newest_voters view first) early le j x wx n (omega arith) (omega (arith, bx.fits)) in
          let led0 : Led early i term (now early i) = record { was = Moments.was_now early i; leads = lead; in_term = in_term } in
          let led1 : Led early o.who term o.leader = record { was = o.led.was; leads = o.led.leads; in_term = o.led.in_term ∙ term_is } in
          let oi : o.who ≡ i = w0.0.1 o.who i term o.leader (now early i) led1 led0 in
          let g = Growth.grows_now view (newest_voters view first) early le i o.leader (subst (λ (m : NodeId). Was early m o.leader) oi o.led.was) o.led.leads lead (o.led.in_term ∙ term_is ∙ sym in_term) in
          omega (arith, prefix_fits o.leader.log (now early i).log g.log, o.fits)
