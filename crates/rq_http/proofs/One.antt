-- A connection's bytes have one list of requests, and one end.
use Rattle.std.proofs.Common.{◌≡◌, ◌<◌, ◌≤◌, ◌+◌, ◌⊎◌, inl, inr, ⊎_elim, ℕ, zero, suc, List, [], ◌∷◌, ◌++◌, map, take, drop, length, nat_le, length-append, length-take, length-drop, Bool, true, false, refl, sym, ap, subst, ◌∙◌, arith}
use Rattle.httparse.specs.Grammar.{RequestHead}
use Rattle.httparse.proofs.GrammarLemmas.{request_unique}
use Rattle.std.proofs.lemmas.List.{append-nil, map-append, length-map}
use Rattle.rq_http.specs.declared.place.Place.{Place}
use Rattle.rq_http.specs.declared.place.Place.TheVariants.{Before}
use Rattle.rq_http.specs.declared.place.Front.{Front}
use Rattle.rq_http.specs.declared.place.Front.TheVariants.{Head, Part, Broken}
use Rattle.rq_http.specs.declared.head.Framing.{Framing}
use Rattle.rq_http.specs.declared.head.Framing.TheVariants.{Bad, Body, Long}
use Rattle.rq_http.specs.declared.head.Refusal.{Refusal}
use Rattle.rq_http.specs.declared.head.Refusal.TheVariants.{LongBody}
use Rattle.rq_http.specs.declared.port.Reply.{Reply}
use Rattle.rq_http.specs.declared.connection.Served.{Served}
use Rattle.rq_http.specs.declared.connection.Served.TheVariants.{Done, Short, Refused, Limit}
use Rattle.rq_http.specs.Exchange.{Exchange}
use Rattle.rq_http.specs.Front.{front_of, judged, scan}
use Rattle.rq_http.proofs.Heads.{head_within}
use Rattle.rq_http.specs.Framing.{framing_of, closes_after}
use Rattle.rq_http.specs.Request.{Request, IsHead, IsNext, IsRefused, IsUnfinished, fields_of}
use Rattle.rq_http.specs.Response.{response}
use Rattle.rq_http.specs.Run.{Answered, Ends, exchange, request_of, reply_of, refusal_reply}

-- what a front is not
abbrev size_of : Front → ℕ
size_of (Head n) = n
size_of (Part place) = 0
size_of Broken = 0

abbrev count_of : Framing → ℕ
count_of (Body n) = n
count_of (Long n) = n
count_of Bad = 0

abbrev IsTheHead : Front → Type 0
IsTheHead (Head n) = Unit {0}
IsTheHead (Part place) = ⊥
IsTheHead Broken = ⊥

head_not_part : (f : Front) (n : ℕ) (place : Place) → f ≡ Head n → f ≡ Part place → ⊥
head_not_part f n place is other = subst IsTheHead (sym is ∙ other) tt

head_not_broken : (f : Front) (n : ℕ) → f ≡ Head n → f ≡ Broken → ⊥
head_not_broken f n is other = subst IsTheHead (sym is ∙ other) tt

part_not_broken : (f : Front) (place : Place) → f ≡ Part place → f ≡ Broken → ⊥
part_not_broken f place is other = subst (λ (x : Front). IsPart x) (sym is ∙ other) tt
  where
    IsPart : Front → Type 0
    IsPart (Part p) = Unit {0}
    IsPart (Head n) = ⊥
    IsPart Broken = ⊥

abbrev Kind : Framing → Framing → Type 0
Kind (Body n) (Body m) = Unit {0}
Kind (Long n) (Long m) = Unit {0}
Kind Bad Bad = Unit {0}
Kind _ _ = ⊥

same_kind : (f : Framing) → Kind f f
same_kind (Body n) = tt
same_kind (Long n) = tt
same_kind Bad = tt

-- the head at the start is one
one_head : (bytes : List ℕ) (m n : ℕ) (h k : RequestHead) → front_of bytes ≡ Head m → front_of bytes ≡ Head n → IsHead (take m bytes) h → IsHead (take n bytes) k → (m ≡ n) × (h ≡ k)
one_head bytes m n h k fm fn is other =
    let same : m ≡ n = ap size_of (sym fm ∙ fn) in
    let here : IsHead (take n bytes) h = subst (λ (x : ℕ). IsHead (take x bytes) h) same is in
    (same, (request_unique (take n bytes) h k [] [] here.0 other.0).0)

abbrev head_or : {A : Type 0} → A → List A → A
head_or z [] = z
head_or z (x ∷ l) = x

front_same : {A : Type 0} (a b r s : List A) → length a ≡ length b → a ++ r ≡ b ++ s → (a ≡ b) × (r ≡ s)
front_same [] [] r s size is = (refl, is)
front_same [] (y ∷ b) r s size is = absurd (omega (arith, size))
front_same (x ∷ a) [] r s size is = absurd (omega (arith, size))
front_same {A} (x ∷ a) (y ∷ b) r s size is =
    let first : x ≡ y = ap (head_or x) is in
    let rest = front_same a b r s (omega (arith, size)) (ap (λ (l : List A). drop 1 l) is) in
    (ap (λ (z : A). z ∷ a) first ∙ ap (λ (l : List A). y ∷ l) rest.0, rest.1)

abbrev made : List ℕ → List ℕ → List ℕ → Request
made m t b = record { method = m; target = t; body = b }

judged_head : (long : Bool) (f : Front) (n : ℕ) → judged long f ≡ Head n → f ≡ Head n
judged_head true (Part place) n is = absurd (head_not_broken Broken n is refl)
judged_head false (Part place) n is = is
judged_head long (Head m) n is = is
judged_head long Broken n is = is

front_size : (m : ℕ) (bytes : List ℕ) (n : ℕ) (long : Bool) → judged long (scan 0 Before (take m bytes)) ≡ Head n → n ≤ length bytes
front_size m bytes n long is = omega (arith, head_within Before (take m bytes) n (judged_head long (scan 0 Before (take m bytes)) n is), length-take m bytes)

front_within : (bytes : List ℕ) (n : ℕ) → front_of bytes ≡ Head n → n ≤ length bytes
front_within bytes n is = front_size 16384 bytes n (nat_le 16384 (length bytes)) is

-- the next request is one
pub one_next : (bytes : List ℕ) (r q : Request) (c d : Bool) (x y : List ℕ) → IsNext bytes r c x → IsNext bytes q d y → (r ≡ q) × (c ≡ d) × (x ≡ y)
one_next bytes r q c d x y p o =
    let same = one_head bytes p.size o.size p.h o.h p.front o.front p.head o.head in
    let framing : Body (length r.body) ≡ Body (length q.body) = sym p.framing ∙ ap (λ (h : RequestHead). framing_of (fields_of h)) same.1 ∙ o.framing in
    let rest = front_same r.body q.body x y (ap count_of framing) (sym p.follows ∙ ap (λ (n : ℕ). drop n bytes) same.0 ∙ o.follows) in (
      one_request (sym p.method ∙ ap (λ (h : RequestHead). h.method) same.1 ∙ o.method) (sym p.target ∙ ap (λ (h : RequestHead). h.target) same.1 ∙ o.target) rest.0,
      p.closes_is ∙ ap (λ (h : RequestHead). closes_after h.method h.minor (fields_of h)) same.1 ∙ sym o.closes_is,
      rest.1,
    )
  where
    one_request : {a b : Request} → a.method ≡ b.method → a.target ≡ b.target → a.body ≡ b.body → a ≡ b
    one_request {a} {b} m t y = ap (λ (z : List ℕ). made z a.target a.body) m ∙ ap (λ (z : List ℕ). made b.method z a.body) t ∙ ap (made b.method b.target) y

-- a request that is next isn't refused
next_not_refused : (bytes : List ℕ) (r : Request) (c : Bool) (x : List ℕ) (refusal : Refusal) → IsNext bytes r c x → IsRefused bytes refusal → ⊥
next_not_refused bytes r c x _ p (IsRefused.broken is) = head_not_broken (front_of bytes) p.size p.front is
next_not_refused bytes r c x _ p (IsRefused.bad size front none) =
    let same : p.size ≡ size = ap size_of (sym p.front ∙ front) in
    let bad = none p.h (subst (λ (n : ℕ). IsHead (take n bytes) p.h) same p.head) in
    subst (Kind (Body (length r.body))) (sym p.framing ∙ bad) tt
next_not_refused bytes r c x _ p (IsRefused.long size h n front head framing) =
    let same = one_head bytes p.size size p.h h p.front front p.head head in
    subst (Kind (Body (length r.body))) (sym p.framing ∙ ap (λ (k : RequestHead). framing_of (fields_of k)) same.1 ∙ framing) tt

-- nor unfinished
next_not_unfinished : (bytes : List ℕ) (r : Request) (c : Bool) (x : List ℕ) → IsNext bytes r c x → IsUnfinished bytes → ⊥
next_not_unfinished bytes r c x p (IsUnfinished.in_head place is) = head_not_part (front_of bytes) p.size place p.front is
next_not_unfinished bytes r c x p (IsUnfinished.in_body size h n front head framing short) =
    let same = one_head bytes p.size size p.h h p.front front p.head head in
    let count : length r.body ≡ n = ap count_of (sym p.framing ∙ ap (λ (k : RequestHead). framing_of (fields_of k)) same.1 ∙ framing) in
    omega (arith, short, same.0, count, front_within bytes p.size p.front, ap length p.follows, length-append r.body x, length-drop p.size bytes)

refused_not_unfinished : (bytes : List ℕ) (refusal : Refusal) → IsRefused bytes refusal → IsUnfinished bytes → ⊥
refused_not_unfinished bytes _ (IsRefused.broken is) (IsUnfinished.in_head place part) = part_not_broken (front_of bytes) place part is
refused_not_unfinished bytes _ (IsRefused.broken is) (IsUnfinished.in_body size h n front head framing short) = head_not_broken (front_of bytes) size front is
refused_not_unfinished bytes _ (IsRefused.bad size front none) (IsUnfinished.in_head place part) = head_not_part (front_of bytes) size place front part
refused_not_unfinished bytes _ (IsRefused.bad size front none) (IsUnfinished.in_body other h n f head framing short) =
    let same : other ≡ size = ap size_of (sym f ∙ front) in
    subst (Kind (Body n)) (sym framing ∙ none h (subst (λ (m : ℕ). IsHead (take m bytes) h) same head)) tt
refused_not_unfinished bytes _ (IsRefused.long size h n front head framing) (IsUnfinished.in_head place part) = head_not_part (front_of bytes) size place front part
refused_not_unfinished bytes _ (IsRefused.long size h n front head framing) (IsUnfinished.in_body other k m f is body short) =
    let same = one_head bytes other size k h f front is head in
    subst (Kind (Body m)) (sym body ∙ ap (λ (x : RequestHead). framing_of (fields_of x)) same.1 ∙ framing) tt

-- and the refusal is one
one_refusal : (bytes : List ℕ) (a b : Refusal) → IsRefused bytes a → IsRefused bytes b → a ≡ b
one_refusal bytes _ _ (IsRefused.broken is) (IsRefused.broken other) = refl
one_refusal bytes _ _ (IsRefused.broken is) (IsRefused.bad size front none) = refl
one_refusal bytes _ _ (IsRefused.broken is) (IsRefused.long size h n front head framing) = absurd (head_not_broken (front_of bytes) size front is)
one_refusal bytes _ _ (IsRefused.bad size front none) (IsRefused.broken is) = refl
one_refusal bytes _ _ (IsRefused.bad size front none) (IsRefused.bad other f never) = refl
one_refusal bytes _ _ (IsRefused.bad size front none) (IsRefused.long other h n f head framing) =
    let same : other ≡ size = ap size_of (sym f ∙ front) in
    absurd (subst (Kind (Long n)) (sym framing ∙ none h (subst (λ (m : ℕ). IsHead (take m bytes) h) same head)) tt)
one_refusal bytes _ _ (IsRefused.long size h n front head framing) (IsRefused.broken is) = absurd (head_not_broken (front_of bytes) size front is)
one_refusal bytes _ _ (IsRefused.long size h n front head framing) (IsRefused.bad other f none) =
    let same : size ≡ other = ap size_of (sym front ∙ f) in
    absurd (subst (Kind (Long n)) (sym framing ∙ none h (subst (λ (m : ℕ). IsHead (take m bytes) h) same head)) tt)
one_refusal bytes _ _ (IsRefused.long size h n front head framing) (IsRefused.long other k m f is long) =
    let same = one_head bytes size other h k front f head is in
    ap LongBody (ap count_of (sym framing ∙ ap (λ (x : RequestHead). framing_of (fields_of x)) same.1 ∙ long))

lt_or_eq : (n m : ℕ) → n < m + 1 → (n < m) ⊎ (n ≡ m)
lt_or_eq zero zero lt = inr refl
lt_or_eq zero (suc m) lt = inl (omega arith)
lt_or_eq (suc n) zero lt = absurd (omega (arith, lt))
lt_or_eq (suc n) (suc m) lt = ⊎_elim (λ less. inl (omega (arith, less))) (λ same. inr (ap suc same)) (lt_or_eq n m (omega (arith, lt)))

three_ways : (n m : ℕ) → (n < m) ⊎ ((n ≡ m) ⊎ (m < n))
three_ways zero zero = inr (inl refl)
three_ways zero (suc m) = inl (omega arith)
three_ways (suc n) zero = inr (inr (omega arith))
three_ways (suc n) (suc m) = ⊎_elim (λ less. inl (omega (arith, less))) (λ o. inr (⊎_elim (λ same. inl (ap suc same)) (λ more. inr (omega (arith, more))) o)) (three_ways n m)

one_more : {A : Type 0} (d : List A) (e : A) → length (d ++ e ∷ []) ≡ length d + 1
one_more d e = omega (arith, length-append d (e ∷ []))

module _ (bytes : List ℕ) where
  -- as many requests are the same ones, and leave the same bytes
  one_answered : (d1 : List Exchange) (t1 l1 : List ℕ) → Answered bytes d1 t1 l1 → (d2 : List Exchange) (t2 l2 : List ℕ) → Answered bytes d2 t2 l2 → length d1 ≡ length d2
      → (map request_of d1 ≡ map request_of d2) × (map reply_of d1 ≡ map reply_of d2 → t1 ≡ t2) × (l1 ≡ l2)
  one_answered _ _ _ Answered.none _ _ _ Answered.none size = (refl, (λ same. refl), refl)
  one_answered _ _ _ Answered.none _ _ _ (Answered.next d t l r reply rest a within is) size = absurd (omega (arith, size, one_more d (exchange r reply)))
  one_answered _ _ _ (Answered.next d t l r reply rest a within is) _ _ _ Answered.none size = absurd (omega (arith, size, one_more d (exchange r reply)))
  one_answered _ _ _ (Answered.next d t l r reply rest a within is) _ _ _ (Answered.next e u m q other rest2 b within2 is2) size =
      let fewer : length d ≡ length e = omega (arith, size, one_more d (exchange r reply), one_more e (exchange q other)) in
      let before = one_answered d t l a e u m b fewer in
      let here = one_next m r q false false rest rest2 (subst (λ (x : List ℕ). IsNext x r false rest) before.2 is) is2 in (
        map-append request_of d (exchange r reply ∷ []) ∙ ap (λ (x : List Request). x ++ r ∷ []) before.0 ∙ ap (λ (x : Request). map request_of e ++ x ∷ []) here.0 ∙ sym (map-append request_of e (exchange q other ∷ [])),
        (λ same.
            let split = front_same (map reply_of d) (map reply_of e) (reply ∷ []) (other ∷ []) (length-map d reply_of ∙ fewer ∙ sym (length-map e reply_of)) (sym (map-append reply_of d (exchange r reply ∷ [])) ∙ same ∙ map-append reply_of e (exchange q other ∷ [])) in
            ap (λ (x : List ℕ). x ++ response false reply) (before.1 split.0) ∙ ap (λ (x : Reply). u ++ response false x) (ap (head_or reply) split.1)),
        here.2,
      )

  -- a longer run goes on from where a shorter one stands
  goes_on_at : (d : List Exchange) (t l : List ℕ) → Answered bytes d t l → (n : ℕ) → n < length d
      → (done : List Exchange) × (text : List ℕ) × (left : List ℕ) × (r : Request) × (rest : List ℕ) × Answered bytes done text left × (length done ≡ n) × IsNext left r false rest × (n + 1 < 10000)
  goes_on_at _ _ _ Answered.none n lt = absurd (omega (arith, lt))
  goes_on_at _ _ _ (Answered.next d t l r reply rest a within is) n lt =
      ⊎_elim (λ less. goes_on_at d t l a n less) (λ same. (d, t, l, r, rest, a, sym same, is, omega (arith, within, same))) (lt_or_eq n (length d) (omega (arith, lt, one_more d (exchange r reply))))

-- where a run stops
data Stop (left : List ℕ) (n : ℕ) : Served → List Exchange → List ℕ → Type 0 where
  complete : left ≡ [] → Stop left n (Done n) [] []
  closed : (r : Request) (reply : Reply) (rest : List ℕ) → IsNext left r true rest → Stop left n (Done (n + 1)) (exchange r reply ∷ []) (response true reply)
  short : 0 < length left → IsUnfinished left → Stop left n (Short n (length left)) [] []
  refused : (refusal : Refusal) → IsRefused left refusal → Stop left n (Refused (n + 1)) [] (response true (refusal_reply refusal))
  limit : (r : Request) (reply : Reply) (rest : List ℕ) → n + 1 ≡ 10000 → IsNext left r false rest → Stop left n (Limit 10000) (exchange r reply ∷ []) (response true reply)

next_of_none : (left : List ℕ) (r : Request) (c : Bool) (rest : List ℕ) → left ≡ [] → IsNext left r c rest → ⊥
next_of_none left r c rest none is = head_not_part (front_of []) is.size Before (ap front_of (sym none) ∙ is.front) refl

refused_of_none : (left : List ℕ) (refusal : Refusal) → left ≡ [] → IsRefused left refusal → ⊥
refused_of_none left refusal none is = refused_not_unfinished left refusal is (IsUnfinished.in_head Before (ap front_of none))

not_both : true ≡ false → ⊥
not_both is = absurd (cc is)

-- a run that stops doesn't go on
stop_not_next : (left : List ℕ) (n : ℕ) (s : Served) (e : List Exchange) (x : List ℕ) → Stop left n s e x → (r : Request) (rest : List ℕ) → IsNext left r false rest → n + 1 < 10000 → ⊥
stop_not_next left n _ _ _ (complete none) r rest is lt = next_of_none left r false rest none is
stop_not_next left n _ _ _ (closed q reply more other) r rest is lt = not_both (one_next left q r true false more rest other is).1
stop_not_next left n _ _ _ (short some part) r rest is lt = next_not_unfinished left r false rest is part
stop_not_next left n _ _ _ (refused refusal denied) r rest is lt = next_not_refused left r false rest refusal is denied
stop_not_next left n _ _ _ (limit q reply more at other) r rest is lt = absurd (omega (arith, at, lt))

abbrev Same : Served → Served → List Exchange → List Exchange → List ℕ → List ℕ → Type 0
Same s1 s2 e1 e2 x1 x2 = (s1 ≡ s2) × (map request_of e1 ≡ map request_of e2) × (map reply_of e1 ≡ map reply_of e2 → x1 ≡ x2)

one_stop : (left : List ℕ) (n : ℕ) (s1 s2 : Served) (e1 e2 : List Exchange) (x1 x2 : List ℕ) → Stop left n s1 e1 x1 → Stop left n s2 e2 x2 → Same s1 s2 e1 e2 x1 x2
one_stop left n _ _ _ _ _ _ (complete none) (complete other) = (refl, refl, λ same. refl)
one_stop left n _ _ _ _ _ _ (complete none) (closed r reply rest is) = absurd (next_of_none left r true rest none is)
one_stop left n _ _ _ _ _ _ (complete none) (short some part) = absurd (omega (arith, some, ap length none))
one_stop left n _ _ _ _ _ _ (complete none) (refused refusal is) = absurd (refused_of_none left refusal none is)
one_stop left n _ _ _ _ _ _ (complete none) (limit r reply rest at is) = absurd (next_of_none left r false rest none is)
one_stop left n _ _ _ _ _ _ (closed r reply rest is) (complete none) = absurd (next_of_none left r true rest none is)
one_stop left n _ _ _ _ _ _ (closed r reply rest is) (closed q other more it) =
    (refl, ap (λ (x : Request). x ∷ []) (one_next left r q true true rest more is it).0, λ same. ap (response true) (ap (head_or reply) same))
one_stop left n _ _ _ _ _ _ (closed r reply rest is) (short some part) = absurd (next_not_unfinished left r true rest is part)
one_stop left n _ _ _ _ _ _ (closed r reply rest is) (refused refusal denied) = absurd (next_not_refused left r true rest refusal is denied)
one_stop left n _ _ _ _ _ _ (closed r reply rest is) (limit q other more at it) = absurd (not_both (one_next left r q true false rest more is it).1)
one_stop left n _ _ _ _ _ _ (short some part) (complete none) = absurd (omega (arith, some, ap length none))
one_stop left n _ _ _ _ _ _ (short some part) (closed r reply rest is) = absurd (next_not_unfinished left r true rest is part)
one_stop left n _ _ _ _ _ _ (short some part) (short other again) = (refl, refl, λ same. refl)
one_stop left n _ _ _ _ _ _ (short some part) (refused refusal is) = absurd (refused_not_unfinished left refusal is part)
one_stop left n _ _ _ _ _ _ (short some part) (limit r reply rest at is) = absurd (next_not_unfinished left r false rest is part)
one_stop left n _ _ _ _ _ _ (refused refusal is) (complete none) = absurd (refused_of_none left refusal none is)
one_stop left n _ _ _ _ _ _ (refused refusal is) (closed r reply rest it) = absurd (next_not_refused left r true rest refusal it is)
one_stop left n _ _ _ _ _ _ (refused refusal is) (short some part) = absurd (refused_not_unfinished left refusal is part)
one_stop left n _ _ _ _ _ _ (refused refusal is) (refused other it) = (refl, refl, λ same. ap (λ (x : Refusal). response true (refusal_reply x)) (one_refusal left refusal other is it))
one_stop left n _ _ _ _ _ _ (refused refusal is) (limit r reply rest at it) = absurd (next_not_refused left r false rest refusal it is)
one_stop left n _ _ _ _ _ _ (limit r reply rest at is) (complete none) = absurd (next_of_none left r false rest none is)
one_stop left n _ _ _ _ _ _ (limit r reply rest at is) (closed q other more it) = absurd (not_both (one_next left q r true false more rest it is).1)
one_stop left n _ _ _ _ _ _ (limit r reply rest at is) (short some part) = absurd (next_not_unfinished left r false rest is part)
one_stop left n _ _ _ _ _ _ (limit r reply rest at is) (refused refusal denied) = absurd (next_not_refused left r false rest refusal is denied)
one_stop left n _ _ _ _ _ _ (limit r reply rest at is) (limit q other more at2 it) =
    (refl, ap (λ (x : Request). x ∷ []) (one_next left r q false false rest more is it).0, λ same. ap (response true) (ap (head_or reply) same))

module _ (bytes : List ℕ) where
  -- a run and where it stops
  abbrev Cut : Served → List Exchange → List ℕ → Type 0
  Cut s d t = (done : List Exchange) × (text : List ℕ) × (left : List ℕ) × (e : List Exchange) × (x : List ℕ) × Answered bytes done text left × Stop left (length done) s e x × (d ≡ done ++ e) × (t ≡ text ++ x)

  cut_of : (s : Served) (d : List Exchange) (t : List ℕ) → Ends bytes s d t → Cut s d t
  cut_of _ d t (Ends.complete _ _ a) = (d, t, [], [], [], a, complete refl, sym (append-nil d), sym (append-nil t))
  cut_of _ _ _ (Ends.closed d t l r reply rest a within is) = (d, t, l, exchange r reply ∷ [], response true reply, a, closed r reply rest is, refl, refl)
  cut_of _ d t (Ends.short _ _ l a some part) = (d, t, l, [], [], a, short some part, sym (append-nil d), sym (append-nil t))
  cut_of _ d _ (Ends.refused _ t l refusal a is) = (d, t, l, [], response true (refusal_reply refusal), a, refused refusal is, sym (append-nil d), refl)
  cut_of _ _ _ (Ends.limit d t l r reply rest a at is) = (d, t, l, exchange r reply ∷ [], response true reply, a, limit r reply rest at is, refl, refl)

  too_long : (s : Served) (e : List Exchange) (x : List ℕ) (d1 : List Exchange) (t1 l1 : List ℕ) → Answered bytes d1 t1 l1 → Stop l1 (length d1) s e x → (d2 : List Exchange) (t2 l2 : List ℕ) → Answered bytes d2 t2 l2 → length d1 < length d2 → ⊥
  too_long s e x d1 t1 l1 a stop d2 t2 l2 b less =
      let on = goes_on_at bytes d2 t2 l2 b (length d1) less in
      let same = one_answered bytes d1 t1 l1 a on.0 on.1 on.2 on.5 (sym on.6) in
      stop_not_next l1 (length d1) s e x stop on.3 on.4 (subst (λ (l : List ℕ). IsNext l on.3 false on.4) (sym same.2) on.7) on.8

  cut_same : (s1 s2 : Served) (d1 d2 : List Exchange) (t1 t2 : List ℕ) (p : Cut s1 d1 t1) (q : Cut s2 d2 t2) → length p.0 ≡ length q.0 → Same s1 s2 d1 d2 t1 t2
  cut_same s1 s2 d1 d2 t1 t2 p q size =
      let runs = one_answered bytes p.0 p.1 p.2 p.5 q.0 q.1 q.2 q.5 size in
      let stop : Stop q.2 (length q.0) s1 p.3 p.4 = subst (λ (n : ℕ). Stop q.2 n s1 p.3 p.4) size (subst (λ (l : List ℕ). Stop l (length p.0) s1 p.3 p.4) runs.2 p.6) in
      let ends = one_stop q.2 (length q.0) s1 s2 p.3 q.3 p.4 q.4 stop q.6 in (
        ends.0,
        ap (map request_of) p.7 ∙ map-append request_of p.0 p.3 ∙ ap (λ (x : List Request). x ++ map request_of p.3) runs.0 ∙ ap (λ (x : List Request). map request_of q.0 ++ x) ends.1 ∙ sym (map-append request_of q.0 q.3) ∙ sym (ap (map request_of) q.7),
        (λ same.
            let split = front_same (map reply_of p.0) (map reply_of q.0) (map reply_of p.3) (map reply_of q.3) (length-map p.0 reply_of ∙ size ∙ sym (length-map q.0 reply_of))
            (sym (map-append reply_of p.0 p.3) ∙ sym (ap (map reply_of) p.7) ∙ same ∙ ap (map reply_of) q.7 ∙ map-append reply_of q.0 q.3) in
            p.8 ∙ ap (λ (x : List ℕ). x ++ p.4) (runs.1 split.0) ∙ ap (λ (x : List ℕ). q.1 ++ x) (ends.2 split.1) ∙ sym q.8),
      )

  pub ends_same : (s1 s2 : Served) (d1 d2 : List Exchange) (t1 t2 : List ℕ) → Ends bytes s1 d1 t1 → Ends bytes s2 d2 t2 → Same s1 s2 d1 d2 t1 t2
  ends_same s1 s2 d1 d2 t1 t2 a b =
      let p = cut_of s1 d1 t1 a in
      let q = cut_of s2 d2 t2 b in
      ⊎_elim (λ less. absurd (too_long s1 p.3 p.4 p.0 p.1 p.2 p.5 p.6 q.0 q.1 q.2 q.5 less))
      (⊎_elim (λ same. cut_same s1 s2 d1 d2 t1 t2 p q same) (λ more. absurd (too_long s2 q.3 q.4 q.0 q.1 q.2 q.5 q.6 p.0 p.1 p.2 p.5 more)))
      (three_ways (length p.0) (length q.0))
