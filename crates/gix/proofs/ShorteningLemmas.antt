-- The shortest prefix of an id that no other id begins with.
use Rattle.std.proofs.Common.{◌≡◌, ◌≢◌, ◌∙◌, sym, ap, refl, subst, ℕ, ◌+◌, ◌*◌, ◌-◌, ◌^◌, ◌<◌, ◌≤◌, max, min, true, is_some, Option, Some, None, IfSome, List, length, take, arith, inl, inr, ◌⊎◌}
use Rattle.std.proofs.lemmas.Bool.{cases_lt}
use Rattle.std.proofs.lemmas.List.{length-take}
use Rattle.gx_hash.specs.HashKind.{kind_of}
use Rattle.gx_hash.specs.IdDigits.{HasOwnDigits}
use Rattle.gx_hash.specs.ObjectId.{hex_of}
use Rattle.gx_hash.specs.Prefix.{IsPrefixOf}
use Rattle.gx_hash.specs.PrefixDigits.{len_in_hex}
use Rattle.gx_hash.specs.declared.kind.HashKind.{HashKind}
use Rattle.gx_hash.specs.declared.kind.HashKind.TheVariants as hash_kind
use Rattle.gx_hash.specs.declared.prefix.Prefix.{Prefix}
use Rattle.gx_hash.specs.declared.oid.ObjectId.{ObjectId}
use Rattle.gx_store.specs.Content.{Content, lookup}
use Rattle.gx_store.specs.Laws.{SharesPrefix, BeginsAlike, SharesLess}
use Rattle.gx_store.specs.Sharing.{IsAnother, IsLongestShared, shared_digits}
use Rattle.gix.specs.Shortening.{IsChosenLen, IsOwnPrefix, IsShortened, IsUnique}

module _ (shares : SharesPrefix) (begins : BeginsAlike) (content : Content) (id : ObjectId) (less : SharesLess id) where
  -- no id shares all digits with another
  below : (shared : ℕ) → IsLongestShared content id shared → (shared ≡ 0) ⊎ (shared < length (hex_of id))
  below shared longest = elim (cases_lt 0 shared) [
    | inl p ↦ let r = longest.reached p in inr (let q = less content r.0 r.1 in omega (arith, q, r.2))
    | inr p ↦ inl (omega (arith, p))
  ]

  -- the prefix has one digit more than are shared, or as many as are wanted
  pub unique : (least shared len : ℕ) (digits : List ℕ) → IsLongestShared content id shared → least ≤ length (hex_of id) → 4 ≤ least
      → len ≡ min (max least (min (shared + 1) (2 ^ 64 - 1))) (length (hex_of id)) → length (hex_of id) < 2 ^ 63 → digits ≡ take len (hex_of id) → IsUnique content id least digits
  unique least shared len digits longest fits four len_is small digits_are = record {
    enough = subst (λ n. least ≤ n) (sym size) (omega (arith, len_is, fits));
    alone = λ other p e.
        let alike : take len (hex_of id) ≡ take len (hex_of other) = sym digits_are ∙ sym e ∙ ap (λ n. take n (hex_of other)) size in
        let enough = shares id other len (omega (arith, len_is)) alike in
        let most = longest.most other p in
        let rest = less content other p in
        elim (below shared longest) [
          | inl none ↦ omega (arith, enough, most, none, len_is, four, fits)
          | inr some ↦ omega (arith, enough, most, some, len_is, small)
        ];
    shortest = λ shorter p q.
        let few : shorter < len = subst (λ n. shorter < n) size q in
        let r = longest.reached (omega (arith, few, len_is, p, four)) in
        (r.0, r.1, sym (begins id r.0 shorter (omega (arith, few, len_is, p, r.2))));
  }
    where
      size : length digits ≡ len
      size = ap length digits_are ∙ length-take len (hex_of id) ∙ omega (arith, len_is)

small_kind : (hash : HashKind) → len_in_hex hash < 2 ^ 63
small_kind hash_kind.Sha1 = omega arith
small_kind hash_kind.Sha256 = omega arith

module _ (shares : SharesPrefix) (begins : BeginsAlike) (id : ObjectId) (less : SharesLess id) (own : HasOwnDigits id) (hex_len : Option ℕ) (prefix : Prefix) (least shared : ℕ) where
  own_prefix : IsPrefixOf id (min (max least (min (shared + 1) (2 ^ 64 - 1))) (len_in_hex (kind_of id))) prefix → IsOwnPrefix id prefix
  own_prefix p = subst (λ n. IsPrefixOf id n prefix) (sym (ap length p.digits ∙ length-take _ (hex_of id) ∙ (let size = own.size in omega (arith, size)))) p

  pub shortened : (told : Option Content) → 4 ≤ least → least ≤ len_in_hex (kind_of id) → IfSome told (λ content. IsChosenLen hex_len (len_in_hex (kind_of id)) content least)
      → IfSome told (λ content. IsLongestShared content id shared) → IfSome told (λ content. true ≡ is_some (lookup content id))
      → IsPrefixOf id (min (max least (min (shared + 1) (2 ^ 64 - 1))) (len_in_hex (kind_of id))) prefix → IsShortened hex_len id told prefix
  shortened None four fits chosen longest found p = (own_prefix p, tt)
  shortened (Some content) four fits chosen longest found p =
      let size : length (hex_of id) ≡ len_in_hex (kind_of id) = own.size in
      (own_prefix p, (sym found, (least, chosen, unique shares begins content id less least shared _ _ longest (subst (λ n. least ≤ n) (sym size) fits) four (ap (λ n. min (max least (min (shared + 1) (2 ^ 64 - 1))) n) (sym size)) (subst (λ n. n < 2 ^ 63) (sym size) (small_kind (kind_of id))) p.digits)))
