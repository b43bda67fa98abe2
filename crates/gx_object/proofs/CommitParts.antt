-- Parents and further headers, read one after another.
use Rattle.std.proofs.Common.{◌≡◌, ◌∙◌, sym, ap, refl, subst, ℕ, ◌<◌, List, [], ◌∷◌, ◌++◌, length, map, codes, arith, append_assoc, length-append, Some, None, inl, inr}
use Rattle.std.specs.List.{flat_map, AllByRecursion}
use Rattle.std.proofs.lemmas.List.{append-nil, map_push}
use Rattle.std.proofs.lemmas.List.Concat.{flat_map-append}
use Rattle.bstr.specs.BStr.{bstr_bytes}
use Rattle.bstr.specs.declared.bstr.BStr.{BStr}
use Rattle.gx_hash.specs.declared.kind.HashKind.{HashKind}
use Rattle.gx_object.specs.declared.commit.decode.ExtraHeader.{ExtraHeader}
use Rattle.gx_object.specs.Commit.{encoding_line}
use Rattle.gx_hash.specs.IdDigits.{IsHexId}
use Rattle.gx_object.specs.CommitSpelling.{HeaderText, IsHeader, IsEncodingHeader, header_text, raw_line, text_line}
use Rattle.gx_object.specs.CommitLines.{HasHeader, IsNoHeader, AddsHeaders, PushesHeaders, AddsParents, HasHeaders}

pub all_push : {A : Type 0} (P : A → Type 0) (xs : List A) (x : A) → AllByRecursion P xs → P x → AllByRecursion P (xs ++ x ∷ [])
all_push P [] x p q = (q, tt)
all_push P (y ∷ ys) x p q = (p.0, all_push P ys x p.1 q)

pub flat_map_push : {A : Type 0} (f : A → List ℕ) (xs : List A) (x : A) → flat_map f (xs ++ x ∷ []) ≡ flat_map f xs ++ f x
flat_map_push f xs x = flat_map-append f xs (x ∷ []) ∙ ap (λ l. flat_map f xs ++ l) (append-nil (f x))

-- the text in front grows by one part
grows : {A : Type 0} (f : A → List ℕ) (bytes : List ℕ) (xs : List A) (x : A) (rest more : List ℕ) → bytes ≡ flat_map f xs ++ rest → rest ≡ f x ++ more → bytes ≡ flat_map f (xs ++ x ∷ []) ++ more
grows f bytes xs x rest more p q = p ∙ ap (λ l. flat_map f xs ++ l) q ∙ sym (append_assoc (flat_map f xs) (f x) more) ∙ ap (λ l. l ++ more) (sym (flat_map_push f xs x))

pub parents_none : (hash : HashKind) (bytes : List ℕ) → AddsParents hash bytes [] bytes
parents_none hash bytes = record { is = refl; ids = tt }

pub parents_more : (hash : HashKind) (bytes rest more : List ℕ) (parents : List BStr) (parent : BStr) → AddsParents hash bytes (map bstr_bytes parents) rest
    → IsHexId hash (bstr_bytes parent) → rest ≡ text_line (codes "parent ") (bstr_bytes parent) ++ more → AddsParents hash bytes (map bstr_bytes (parents ++ parent ∷ [])) more
parents_more hash bytes rest more parents parent p id is = subst (λ xs. AddsParents hash bytes xs more) (sym (map_push bstr_bytes parents parent)) (record {
  is = grows (text_line (codes "parent ")) bytes (map bstr_bytes parents) (bstr_bytes parent) rest more p.is is;
  ids = all_push (IsHexId hash) (map bstr_bytes parents) (bstr_bytes parent) p.ids id;
})

pub parent_shorter : (rest text more : List ℕ) → rest ≡ text_line (codes "parent ") text ++ more → length more < length rest
parent_shorter rest text more e = omega (arith, ap length e, length-append (text_line (codes "parent ") text) more, length-append (codes "parent ") (text ++ 10 ∷ []))

pub header_shorter : (rest : List ℕ) (h : HeaderText) (more : List ℕ) → HasHeader rest h more → length more < length rest
header_shorter rest h more p = omega (arith, ap length p.is, length-append (raw_line h) more, length-append h.name (32 ∷ h.raw ++ 10 ∷ []), length-append h.raw (10 ∷ []))

pub headers_none : (bytes : List ℕ) (old : List HeaderText) → AddsHeaders bytes old old bytes
headers_none bytes old = record { added = []; new_is = sym (append-nil old); is = refl; each = tt; no_fold = λ p. p }

pub headers_more : (bytes rest more : List ℕ) (old : List HeaderText) (headers : List ExtraHeader) (header : ExtraHeader) → AddsHeaders bytes old (map header_text headers) rest
    → HasHeader rest (header_text header) more → AddsHeaders bytes old (map header_text (headers ++ header ∷ [])) more
headers_more bytes rest more old headers header p has = record {
  added = p.added ++ header_text header ∷ [];
  new_is = map_push header_text headers header ∙ ap (λ l. l ++ header_text header ∷ []) p.new_is ∙ append_assoc old p.added (header_text header ∷ []);
  is = grows raw_line bytes p.added (header_text header) rest more p.is has.is;
  each = all_push IsHeader p.added (header_text header) p.each has.header;
  no_fold = λ _. has.ends;
}

pub no_headers : (bytes : List ℕ) → IsNoHeader bytes → HasHeaders bytes None [] bytes
no_headers bytes none = record { is = refl; encoding_is = tt; each = tt; ends = none; no_fold = inl (refl, refl) }

pub encoded : (bytes : List ℕ) (first : HeaderText) (rest : List ℕ) (headers : List HeaderText) (more : List ℕ) → HasHeader bytes first rest → IsEncodingHeader first
    → PushesHeaders rest [] headers more → HasHeaders bytes (Some first.raw) headers more
encoded bytes first rest headers more has is pushes = record {
  is = has.is ∙ ap (λ n. (n ++ (32 ∷ first.raw ++ 10 ∷ [])) ++ rest) is.0 ∙ ap (λ l. encoding_line (Some first.raw) ++ l) (pushes.0.is ∙ ap (λ l. flat_map raw_line l ++ more) (sym pushes.0.new_is));
  encoding_is = is.1;
  each = subst (AllByRecursion IsHeader) (sym pushes.0.new_is) pushes.0.each;
  ends = pushes.1;
  no_fold = inr (pushes.0.no_fold has.ends);
}

pub not_encoded : (bytes : List ℕ) (first : HeaderText) (rest : List ℕ) (headers : List HeaderText) (more : List ℕ) → HasHeader bytes first rest → (IsEncodingHeader first → ⊥)
    → PushesHeaders rest (first ∷ []) headers more → HasHeaders bytes None headers more
not_encoded bytes first rest headers more has none pushes =
    subst (λ l. HasHeaders bytes None l more) (sym pushes.0.new_is) (record {
      is = has.is ∙ ap (λ l. raw_line first ++ l) pushes.0.is ∙ sym (append_assoc (raw_line first) (flat_map raw_line pushes.0.added) more);
      encoding_is = none;
      each = (has.header, pushes.0.each);
      ends = pushes.1;
      no_fold = inr (pushes.0.no_fold has.ends);
    })
