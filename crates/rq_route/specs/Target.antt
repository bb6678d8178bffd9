-- A target's path and query, as docs/API.md has it, "Requests"; its forms are those of RFC 9112, section 3.2.
use Rattle.std.specs.Prelude.{ℕ, List, [], ◌∷◌, Bool, ◌||◌, ◌&&◌, if◌then◌else◌, ◌==◌, nat_le, length, take, drop, codes}
use Rattle.http1.specs.Text.{eq_ignore_case}

-- it begins with the scheme
abbrev pub is_absolute : List ℕ → Bool
is_absolute target = nat_le 7 (length target) && eq_ignore_case (take 7 target) (codes "http://")

-- from the first slash or question mark on
abbrev pub behind_authority : List ℕ → List ℕ
behind_authority [] = []
behind_authority (b ∷ bytes) = if b == 47 || b == 63 then b ∷ bytes else behind_authority bytes

-- a target without its scheme and authority, where it has them
abbrev pub origin_form : List ℕ → List ℕ
origin_form target = if is_absolute target then behind_authority (drop 7 target) else target

-- what stands before the first question mark
abbrev pub path_part : List ℕ → List ℕ
path_part [] = []
path_part (b ∷ bytes) = if b == 63 then [] else b ∷ path_part bytes

-- what stands behind it
abbrev pub query_part : List ℕ → List ℕ
query_part [] = []
query_part (b ∷ bytes) = if b == 63 then bytes else query_part bytes
