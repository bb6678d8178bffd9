-- The order of the keys.
use Rattle.std.proofs.Common.{◌≡◌, refl, ap, true}
use Rattle.std.specs.declared.cmp.Ordering.{Ordering}
use Rattle.std.specs.declared.cmp.Ordering.TheVariants.{Less, Equal, Greater}
use Rattle.std.specs.Ordering.{is_eq}
use Rattle.std.specs.Cmp.{int_cmp_total, eq_by_cmp_equiv}
use Rattle.std.specs.Cmp.Lexicographic.{nat_list_cmp_total as bytes_total}
use Rattle.std.proofs.lemmas.Map.Lookups.{exact_signed, exact_bytes}
use Rattle.rq_values.specs.declared.value.Value.{Value}
use Rattle.rq_values.specs.declared.value.Value.TheVariants.{Null, Int, Text, Blob}
use Rattle.rq_values.specs.Order.{value_cmp}
use Rattle.rq_rows.specs.Holding.{key_cmp}

pub is_compared : (v w : Value) → key_cmp v w ≡ value_cmp v w
is_compared Null Null = refl
is_compared Null (Int n) = refl
is_compared Null (Text t) = refl
is_compared Null (Blob b) = refl
is_compared (Int m) Null = refl
is_compared (Int m) (Int n) = refl
is_compared (Int m) (Text t) = refl
is_compared (Int m) (Blob b) = refl
is_compared (Text s) Null = refl
is_compared (Text s) (Int n) = refl
is_compared (Text s) (Text t) = refl
is_compared (Text s) (Blob b) = refl
is_compared (Blob a) Null = refl
is_compared (Blob a) (Int n) = refl
is_compared (Blob a) (Text t) = refl
is_compared (Blob a) (Blob b) = refl

pub is_equal : (r : Ordering) → is_eq r ≡ true → r ≡ Equal
is_equal Less h = absurd (cc)
is_equal Equal h = refl
is_equal Greater h = absurd (cc)

pub exact : (v w : Value) → is_eq (value_cmp v w) ≡ true → v ≡ w
exact Null Null h = refl
exact Null (Int n) h = absurd (cc)
exact Null (Text t) h = absurd (cc)
exact Null (Blob b) h = absurd (cc)
exact (Int m) Null h = absurd (cc)
exact (Int m) (Int n) h = ap Int (exact_signed m n (is_equal _ h))
exact (Int m) (Text t) h = absurd (cc)
exact (Int m) (Blob b) h = absurd (cc)
exact (Text s) Null h = absurd (cc)
exact (Text s) (Int n) h = absurd (cc)
exact (Text s) (Text t) h = ap Text (exact_bytes s t (is_equal _ h))
exact (Text s) (Blob b) h = absurd (cc)
exact (Blob a) Null h = absurd (cc)
exact (Blob a) (Int n) h = absurd (cc)
exact (Blob a) (Text t) h = absurd (cc)
exact (Blob a) (Blob b) h = ap Blob (exact_bytes a b (is_equal _ h))

pub compared_itself : (v : Value) → is_eq (value_cmp v v) ≡ true
compared_itself Null = refl
compared_itself (Int n) = (eq_by_cmp_equiv int_cmp_total).refl n
compared_itself (Text s) = (eq_by_cmp_equiv bytes_total).refl s
compared_itself (Blob s) = (eq_by_cmp_equiv bytes_total).refl s
