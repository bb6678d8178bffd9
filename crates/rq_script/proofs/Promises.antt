-- Every run keeps what it promises, and its history only grows.
use Rattle.std.proofs.Common.{◌≡◌, ◌≤◌, ℕ, List, [], ◌∷◌, ◌++◌, length, Option, Some, None, refl, sym, subst, arith}
use Rattle.std.specs.Prelude.{option_and_then, ⊤}
use Rattle.rq_statement.specs.declared.item.Item.{Item}
use Rattle.rq_node.specs.declared.log_entry.LogEntry.{LogEntry}
use Rattle.rq_node.specs.Node.{Node}
use Rattle.rq_script.specs.Lines.{Line, IsWithin}
use Rattle.rq_script.specs.ScriptLine.{Line as Command, line_of}
use Rattle.rq_script.specs.Cluster.{Stand, Running, Down, Server, Cluster, Course, Steps, first_ids, done, step}
use Rattle.rq_script.specs.Runs.{Runs}
use Rattle.rq_script.specs.History.{History, node_at, node_in, notes_of, chosen_with, history}
use Rattle.rq_script.specs.Promise.{Begins, IsReplica, IsKept, Keeps, Grows}
use Rattle.rq_script.proofs.Prefixes.{begins_take, begins_take_same, begins_length}
use Rattle.rq_script.proofs.Histories.{RightNote, all_get, Stands}
use Rattle.rq_script.proofs.Moments.{Sound, Fits, FitsAt, MayGo, line_good}
use Rattle.rq_script.proofs.Places.{Climbs, climbs_both, climbs_more, climbs_apart, AboveAt, Climbed, MayClimb, step_climbs}

step_good : (h : History) (c : Cluster) (bytes : List ℕ) (items : List Item) (course : Course) → Sound h c → MayGo h (notes_of c (line_of bytes) items course) (step items course c bytes)
unfolding step
step_good h c bytes items course sound = at (line_of bytes)
  where
    at : (o : Option Command) → MayGo h (notes_of c o items course) (option_and_then (done items course c) o)
    at None = tt
    at (Some line) = line_good h c line items course sound

pub moment : {lines : List Line} {text : List ℕ} {c : Cluster} (run : Runs lines text c) → Sound (history run) c
unfolding history
moment Runs.start = record { fits = (refl, refl); right = tt; fresh = λ _ _. refl }
moment (Runs.line {c} l more next run within (way, is)) =
    (subst (MayGo (history run) (notes_of c (line_of l.text) way.items way.course)) is
    (step_good (history run) c l.text way.items way.course (moment run))).0

pub grows : {lines : List Line} {text : List ℕ} {c : Cluster} (run : Runs lines text c) (l : Line) (more : List ℕ) (next : Cluster) (within : IsWithin l) (steps : Steps c l.text more next)
    → Grows (history run) (history (Runs.line l more next run within steps))
unfolding history
grows {lines} {text} {c} run l more next within (way, is) =
    (subst (MayGo (history run) (notes_of c (line_of l.text) way.items way.course)) is
    (step_good (history run) c l.text way.items way.course (moment run))).1

-- the places of the answered writes climb to a mark, and the asks that wait are above it
pub record Placed (h : History) (server : Option Server) : Type 0 where
  pub mark : ℕ
  pub climbs : Climbs h.book 0 h.book mark
  pub within : mark ≤ length h.chosen
  pub above : AboveAt mark server

placed : {lines : List Line} {text : List ℕ} {c : Cluster} (run : Runs lines text c) → Placed (history run) c.server
unfolding history
placed Runs.start = record { mark = 0; climbs = omega arith; within = omega arith; above = tt }
placed (Runs.line {c} l more next run within (way, is)) =
    let h = history run in
    let noted = notes_of c (line_of l.text) way.items way.course in
    let before = placed run in
    let behind : Climbed (h.book ++ noted) before.mark noted (length h.chosen) next.server =
    subst (MayClimb h before.mark before.within noted) is (step_climbs h before.mark before.within c l.text way.items way.course (moment run) before.above) in
    let longer = begins_length h.chosen (chosen_with (node_in next) h.chosen) (grows run l more next within (way, is)).chosen in
    let most : behind.mark ≤ length h.chosen = behind.within in
    record {
      mark = behind.mark;
      climbs = climbs_both (h.book ++ noted) h.book noted 0 before.mark behind.mark (climbs_more (first_ids c.server) h.chosen h.book noted h.book 0 before.mark (moment run).right before.climbs) behind.climbs;
      within = omega (arith, longer, most);
      above = behind.above;
    }

-- what fits a server is what each moment promises
fit : (h : History) (o : Option Server) → FitsAt h.chosen h.book o → (n : Node) → option_and_then (λ (s : Server). node_at s.stand) o ≡ Some n → IsReplica (first_ids o) h.chosen n
fit h None fits n is = absurd (cc)
fit h (Some s) fits n is = at s.stand fits is
  where
    replica_of : (m : Node) → Stands (s.id ∷ []) h.chosen h.book m → m.commit ≤ length h.chosen → IsReplica (s.id ∷ []) h.chosen m
    replica_of m stands covers =
        let was_within : m.applied ≤ m.commit = stands.within in
        record {
          applied = subst (λ (l : List LogEntry). Begins l h.chosen) (sym (begins_take_same h.chosen m.log m.applied stands.grown (omega (arith, was_within, covers)))) (begins_take m.applied h.chosen);
          committed = subst (λ (l : List LogEntry). Begins l h.chosen) (sym (begins_take_same h.chosen m.log m.commit stands.grown covers)) (begins_take m.commit h.chosen);
          folds = stands.folds;
        }

    ReplicaIn : Option Node → Type 0
    ReplicaIn None = ⊤
    ReplicaIn (Some m) = IsReplica (s.id ∷ []) h.chosen m

    at : (stand : Stand) → Fits (s.id ∷ []) h.chosen h.book stand → node_at stand ≡ Some n → IsReplica (s.id ∷ []) h.chosen n
    at (Running m) (stands, covers) runs = subst ReplicaIn runs (replica_of m stands covers)
    at (Down kept rest) safe runs = absurd (cc)

pub promised : {lines : List Line} {text : List ℕ} {c : Cluster} (run : Runs lines text c) → Keeps (first_ids c.server) (history run) (node_in c)
promised {lines} {text} {c} run =
    let sound = moment run in
    let places = placed run in
    record {
      replicas = λ n is. fit (history run) c.server sound.fits n is;
      right = λ k number say place is. subst (RightNote (first_ids c.server) (history run).chosen (history run).book) is (all_get (first_ids c.server) (history run).chosen (history run).book (history run).book k sound.right);
      apart = λ j k number other place results more items items' one two asked asked'.
          climbs_apart (history run).book (history run).book 0 places.mark j k number other place results more items items' places.climbs one two asked asked';
    }

-- what was chosen stands in what the server keeps
pub kept : {lines : List Line} {text : List ℕ} {c : Cluster} (run : Runs lines text c) (s : Server) → c.server ≡ Some s → IsKept (history run).chosen s.stand
kept {lines} {text} {c} run s is = at s.stand (subst (FitsAt (history run).chosen (history run).book) is (moment run).fits)
  where
    at : (stand : Stand) → Fits (s.id ∷ []) (history run).chosen (history run).book stand → IsKept (history run).chosen stand
    at (Running n) (stands, covers) = stands.grown
    at (Down held rest) safe = safe
