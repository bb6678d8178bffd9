-- The texts of what binding and settling refuse, as docs/SQL.md has them under "Errors of binding and settling".
use Rattle.std.specs.Prelude.{ℕ, List, [], ◌++◌, codes, decimal, ℤ}
use Rattle.std.specs.Fmt.{signed_decimal}
use Rattle.rq_binding.specs.declared.params.BindError.{BindError}
use Rattle.rq_binding.specs.declared.params.BindError.TheVariants as errors
use Rattle.rq_binding.specs.declared.planning.Refusal.{Refusal}
use Rattle.rq_binding.specs.declared.planning.Refusal.TheVariants as refusal

abbrev pub numbered : List ℕ → ℕ → List ℕ
numbered words n = words ++ decimal n

abbrev pub count_text : ℕ → ℕ → List ℕ
count_text needed given = numbered (codes "wrong number of parameters: needed ") needed ++ numbered (codes ", given ") given

abbrev pub size_text : ℤ → List ℕ
size_text n = codes "blob size out of range: " ++ signed_decimal n

-- want of memory has none
abbrev pub bind_text : BindError → List ℕ
bind_text (errors.Count needed given) = count_text needed given
bind_text (errors.Missing name) = codes "missing parameter: " ++ name
bind_text errors.NoMemory = []

abbrev pub refusal_text : Refusal → List ℕ
refusal_text (refusal.RandomInOrder k) = codes "random in ORDER BY"
refusal_text (refusal.BlobSize n) = size_text n
refusal_text (refusal.BlobArgument k) = codes "blob size is no number"
refusal_text (refusal.MomentRange moment) = numbered (codes "moment out of range: ") moment
