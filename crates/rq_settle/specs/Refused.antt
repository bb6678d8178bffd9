-- The text of the error of a statement that isn't read, as docs/SQL.md, "Errors of reading", has it.
use Rattle.std.specs.Prelude.{ℕ, Bool, ◌&&◌, if◌then◌else◌, nat_lt, List, [], ◌∷◌, ◌++◌, map, codes}
use Rattle.std.specs.List.{list_all}
use Rattle.std.specs.Char.{is_ascii_digit, to_ascii_uppercase}
use Rattle.std.specs.Fmt.{decimal}
use Rattle.rq_settle.specs.Shown.{shown}

-- ASCII without NUL
abbrev pub is_plain : List ℕ → Bool
is_plain bytes = list_all (λ byte. nat_lt 0 byte && nat_lt byte 128) bytes

-- a text of so many bytes
abbrev pub too_long : ℕ → List ℕ
too_long n = codes "statement too long: " ++ decimal n

-- more is wanted at the end
abbrev pub incomplete : List ℕ
incomplete = codes "incomplete input"

-- the token with this source
abbrev pub near : List ℕ → List ℕ
near source = codes "near \"" ++ shown source ++ codes "\": syntax error"

-- a numeral as it is written, a word in upper case
abbrev pub named : List ℕ → List ℕ
named [] = []
named (b ∷ z) = if is_ascii_digit b then b ∷ z else map to_ascii_uppercase (b ∷ z)

abbrev pub not_in_profile : List ℕ → List ℕ
not_in_profile source = codes "not in profile: " ++ shown (named source)

abbrev pub too_deep : List ℕ
too_deep = codes "expression too deep"
