-- Bodies that are JSON, and those that aren't.
use Rattle.std.proofs.Common.{◌≡◌, true, false, ℕ, Bool, List, None, refl}
use Rattle.std.specs.Str.{is_utf8, IsUtf8}
use Rattle.std.proofs.lemmas.Str.{IsUtf8-from_is_utf8, is_utf8-from_IsUtf8}
use Rattle.serde_json.specs.Read.{read}
use Rattle.rq_bodies.specs.Body.{json_of}

pub json_of-text : (body : List ℕ) → IsUtf8 body → json_of body ≡ read body
json_of-text body utf8 = rw (is_utf8-from_IsUtf8 body utf8)

pub json_of-none : (body : List ℕ) → (IsUtf8 body → read body ≡ None) → json_of body ≡ None
json_of-none body none = by_test (is_utf8 body) refl
  where
    by_test : (b : Bool) → is_utf8 body ≡ b → json_of body ≡ None
    by_test true is = rw is (none (IsUtf8-from_is_utf8 body is))
    by_test false is = rw is
