-- What owns the parts of one text is one value.
use Rattle.std.proofs.Common.{◌≡◌, ◌∙◌, sym, ap, refl, subst, map, ℕ, zero, suc, ◌/◌, ◌<◌, List, [], ◌∷◌, slice_index, slice_index_or, take, length, ◌+◌, arith, Option, Some, None, Ok, inl, inr}
use Rattle.std.specs.List.{AllByRecursion}
use Rattle.std.proofs.lemmas.Bool.{cases_lt}
use Rattle.std.proofs.lemmas.List.{get_or_past}
use Rattle.hex.specs.Hex.{IsBytes, lower_digits, encode_with, encode_lower, decode_of}
use Rattle.hex.proofs.HexLemmas.{decode_of-encode_lower}
use Rattle.gx_hash.specs.HashKind.{kind_of, IsOfKind}
use Rattle.gx_hash.specs.ObjectId.{hex_of}
use Rattle.gx_hash.specs.declared.kind.HashKind.{HashKind}
use Rattle.gx_hash.specs.declared.kind.HashKind.TheVariants as hash_kind
use Rattle.gx_hash.specs.declared.oid.ObjectId.{ObjectId}
use Rattle.gx_hash.specs.declared.oid.ObjectId.TheVariants.{Sha1, Sha256}
use Rattle.gx_object.specs.declared.commit.Commit.{Commit}
use Rattle.gx_object.specs.declared.commit.OwnedHeader.{OwnedHeader}
use Rattle.gx_object.specs.declared.kind.Kind.{Kind}
use Rattle.gx_object.specs.declared.signature.Signature.{Signature}
use Rattle.gx_object.specs.declared.signature.Time.{Time}
use Rattle.gx_object.specs.declared.tag.Tag.{Tag}
use Rattle.gx_object.specs.Commit.{commit_bytes}
use Rattle.gx_hash.specs.IdDigits.{IsHexId, IsLowerHexDigit, HasOwnDigits}
use Rattle.gx_object.specs.CommitSpelling.{CommitText, SpellsCommit}
use Rattle.gx_object.specs.IdentitySpelling.{IdentityText}
use Rattle.gx_object.specs.OwnedCommit.{IsCopyOf, IsOfHash}
use Rattle.gx_object.specs.OwnedTag.{OwnsIdentity, OwnsTagger, OwnsTag}
use Rattle.gx_object.specs.Tag.{tag_bytes}
use Rattle.gx_object.specs.TagSpelling.{TagText, SpellsTag}
use Rattle.gx_object.specs.WrittenText.{written_commit, written_tag, IsWholeMinutes, CanWriteCommit, TaggerHas, CanWriteTag}
use Rattle.gx_object.specs.Laws.OneCommit.{one_commit}
use Rattle.gx_object.proofs.TagParts.{one_tag}
use Rattle.gx_object.proofs.TimesOnce.{one_time}
use Rattle.gx_object.specs.Laws.WrittenCommits.{commit_spelled, commit_copy}
use Rattle.gx_object.proofs.WrittenTags.{tag_spelled, tag_copy}

-- Ids: lower-case digits are written of bytes only.
no_digit : IsLowerHexDigit 0 → ⊥
no_digit (inl p) = absurd (omega (arith, p.0))
no_digit (inr p) = absurd (omega (arith, p.0))

digit_small : (n : ℕ) → IsLowerHexDigit (slice_index lower_digits n) → n < 16
digit_small n p = elim (cases_lt n 16) [
  | inl h ↦ h
  | inr h ↦ absurd (no_digit (subst IsLowerHexDigit (get_or_past lower_digits n 0 h) p))
]

range_of : (bytes : List ℕ) → AllByRecursion IsLowerHexDigit (encode_lower bytes) → IsBytes bytes
unfolding encode_with
range_of [] p zero = omega arith
range_of [] p (suc i) = omega arith
range_of (b ∷ bs) p zero = let h = digit_small (b / 16) p.0 in omega (arith, h)
range_of (b ∷ bs) p (suc i) = range_of bs p.1.1 i

same_bytes : (text xs ys : List ℕ) → AllByRecursion IsLowerHexDigit text → encode_lower xs ≡ text → encode_lower ys ≡ text → xs ≡ ys
same_bytes text xs ys digits p q =
    let left = decode_of-encode_lower xs (range_of xs (subst (AllByRecursion IsLowerHexDigit) (sym p) digits)) in
    let right = decode_of-encode_lower ys (range_of ys (subst (AllByRecursion IsLowerHexDigit) (sym q) digits)) in
    let both : Ok xs ≡ Ok ys = sym left ∙ ap decode_of (p ∙ sym q) ∙ right in
    cc

same_id : (hash : HashKind) (text : List ℕ) (a b : ObjectId) → IsHexId hash text → IsOfKind hash a → IsOfKind hash b → hex_of a ≡ text → hex_of b ≡ text → a ≡ b
same_id hash text (Sha1 xs) (Sha1 ys) digits p q e f = ap Sha1 (same_bytes text xs ys digits.digits e f)
same_id hash text (Sha256 xs) (Sha256 ys) digits p q e f = ap Sha256 (same_bytes text xs ys digits.digits e f)
same_id hash text (Sha1 xs) (Sha256 ys) digits p q e f = absurd (let k : hash_kind.Sha1 ≡ hash_kind.Sha256 = p ∙ sym q in cc)
same_id hash text (Sha256 xs) (Sha1 ys) digits p q e f = absurd (let k : hash_kind.Sha256 ≡ hash_kind.Sha1 = p ∙ sym q in cc)

same_ids : (hash : HashKind) (texts : List (List ℕ)) (xs ys : List ObjectId) → AllByRecursion (IsHexId hash) texts → AllByRecursion (IsOfKind hash) xs → AllByRecursion (IsOfKind hash) ys → map hex_of xs ≡ texts → map hex_of ys ≡ texts → xs ≡ ys
same_ids hash [] [] [] digits p q e f = cc
same_ids hash [] (x ∷ xs) ys digits p q e f = cc
same_ids hash [] [] (y ∷ ys) digits p q e f = cc
same_ids hash (text ∷ texts) [] ys digits p q e f = cc
same_ids hash (text ∷ texts) (x ∷ xs) [] digits p q e f = cc
same_ids hash (text ∷ texts) (x ∷ xs) (y ∷ ys) digits p q e f =
    let left : hex_of x ≡ text = cc in
    let right : hex_of y ≡ text = cc in
    let lefts : map hex_of xs ≡ texts = cc in
    let rights : map hex_of ys ≡ texts = cc in
    let first : x ≡ y = same_id hash text x y digits.0 p.0 q.0 left right in
    let rest : xs ≡ ys = same_ids hash texts xs ys digits.1 p.1 q.1 lefts rights in
    cc

-- Identities.
signature_of : (m n d e : List ℕ) (t u : Time) → m ≡ n → d ≡ e → t ≡ u → (let a : Signature = record { name = m; email = d; time = t } in a) ≡ record { name = n; email = e; time = u }
signature_of m n d e t u p q r = cc

same_who : (text : IdentityText) (a b : Signature) → OwnsIdentity text a → OwnsIdentity text b → a ≡ b
same_who text a b p q = signature_of a.name b.name a.email b.email a.time b.time (p.name ∙ sym q.name) (p.email ∙ sym q.email) (one_time text.time a.time b.time p.time q.time)

same_tagger : (text : Option IdentityText) (a b : Option Signature) → OwnsTagger text a → OwnsTagger text b → a ≡ b
same_tagger None None None p q = cc
same_tagger (Some text) (Some a) (Some b) p q = ap Some (same_who text a b p q)
same_tagger None None (Some b) p q = absurd q
same_tagger None (Some a) b p q = absurd p
same_tagger (Some text) None b p q = absurd p
same_tagger (Some text) (Some a) None p q = absurd q

-- Commits.
commit_of : (t t' : ObjectId) (p p' : List ObjectId) (a a' k k' : Signature) (e e' : Option (List ℕ)) (m m' : List ℕ) (h h' : List OwnedHeader)
    → t ≡ t' → p ≡ p' → a ≡ a' → k ≡ k' → e ≡ e' → m ≡ m' → h ≡ h'
    → (let c : Commit = record { tree = t; parents = p; author = a; committer = k; encoding = e; message = m; extra_headers = h } in c) ≡ record { tree = t'; parents = p'; author = a'; committer = k'; encoding = e'; message = m'; extra_headers = h' }
commit_of t t' p p' a a' k k' e e' m m' h h' q r s u v w x = cc

one_copy : (hash : HashKind) (bytes : List ℕ) (text : CommitText) (a b : Commit) → SpellsCommit hash bytes text → IsOfHash hash a → IsOfHash hash b → IsCopyOf text a → IsCopyOf text b → a ≡ b
one_copy hash bytes text a b spells left right p q =
    commit_of a.tree b.tree a.parents b.parents a.author b.author a.committer b.committer a.encoding b.encoding a.message b.message a.extra_headers b.extra_headers
    (same_id hash text.tree a.tree b.tree spells.tree_id left.tree right.tree p.tree q.tree)
    (same_ids hash text.parents a.parents b.parents spells.parent_ids left.parents right.parents p.parents q.parents)
    (same_who text.author a.author b.author p.author q.author)
    (same_who text.committer a.committer b.committer p.committer q.committer)
    (p.encoding ∙ sym q.encoding)
    (p.message ∙ sym q.message)
    (p.extra_headers ∙ sym q.extra_headers)

pub commit_back : (hash : HashKind) (c owned : Commit) (text : CommitText) → CanWriteCommit hash c → IsWholeMinutes c.author.time.offset → IsWholeMinutes c.committer.time.offset
    → IsOfHash hash c → IsOfHash hash owned → SpellsCommit hash (commit_bytes c) text → IsCopyOf text owned → owned ≡ c
commit_back hash c owned text can author committer kinds others spells copy =
    let same : written_commit c ≡ text = one_commit hash (commit_bytes c) (written_commit c) text (commit_spelled hash c can) spells in
    one_copy hash (commit_bytes c) text owned c spells others kinds copy (subst (λ t. IsCopyOf t c) same (commit_copy hash c can author committer))

-- Tags.
tag_of : (o o' : ObjectId) (k k' : Kind) (n n' : List ℕ) (t t' : Option Signature) (m m' : List ℕ) (s s' : Option (List ℕ))
    → o ≡ o' → k ≡ k' → n ≡ n' → t ≡ t' → m ≡ m' → s ≡ s'
    → (let x : Tag = record { target = o; target_kind = k; name = n; tagger = t; message = m; signature = s } in x) ≡ record { target = o'; target_kind = k'; name = n'; tagger = t'; message = m'; signature = s' }
tag_of o o' k k' n n' t t' m m' s s' p q r u v w = cc

one_owned : (hash : HashKind) (bytes : List ℕ) (text : TagText) (a b : Tag) → SpellsTag hash bytes text → IsOfKind hash a.target → IsOfKind hash b.target → OwnsTag text a → OwnsTag text b → a ≡ b
one_owned hash bytes text a b spells left right p q =
    tag_of a.target b.target a.target_kind b.target_kind a.name b.name a.tagger b.tagger a.message b.message a.signature b.signature
    (same_id hash text.target a.target b.target spells.target_id left right p.target q.target)
    (p.target_kind ∙ sym q.target_kind)
    (p.name ∙ sym q.name)
    (same_tagger text.tagger a.tagger b.tagger p.tagger q.tagger)
    (p.message ∙ sym q.message)
    (p.signature ∙ sym q.signature)

pub tag_back : (hash : HashKind) (t owned : Tag) (text : TagText) → CanWriteTag hash t → TaggerHas (λ time. IsWholeMinutes time.offset) t.tagger
    → IsOfKind hash t.target → IsOfKind hash owned.target → SpellsTag hash (tag_bytes t) text → OwnsTag text owned → owned ≡ t
tag_back hash t owned text can whole kind other spells owns =
    let same : written_tag t ≡ text = one_tag hash (tag_bytes t) (written_tag t) text (tag_spelled hash t can) spells in
    one_owned hash (tag_bytes t) text owned t spells other kind owns (subst (λ x. OwnsTag x t) same (tag_copy hash t can whole))

-- Ids that a program holds have the digits of their kind.
kind_by_size : (hash kind : HashKind) (text : List ℕ) → IsHexId hash text → IsHexId kind text → kind ≡ hash
kind_by_size hash_kind.Sha1 hash_kind.Sha1 text p q = refl
kind_by_size hash_kind.Sha256 hash_kind.Sha256 text p q = refl
kind_by_size hash_kind.Sha1 hash_kind.Sha256 text p q = absurd (omega (arith, p.size, q.size))
kind_by_size hash_kind.Sha256 hash_kind.Sha1 text p q = absurd (omega (arith, p.size, q.size))

own_kind : (hash : HashKind) (text : List ℕ) (id : ObjectId) → hex_of id ≡ text → IsHexId hash text → HasOwnDigits id → IsOfKind hash id
own_kind hash text id e digits own = kind_by_size hash (kind_of id) text digits (subst (IsHexId (kind_of id)) e own)

own_kinds : (hash : HashKind) (texts : List (List ℕ)) (ids : List ObjectId) → map hex_of ids ≡ texts → AllByRecursion (IsHexId hash) texts → AllByRecursion HasOwnDigits ids → AllByRecursion (IsOfKind hash) ids
own_kinds hash texts [] e digits own = tt
own_kinds hash [] (id ∷ ids) e digits own = cc
own_kinds hash (text ∷ texts) (id ∷ ids) e digits own =
    let here : hex_of id ≡ text = cc in
    let rest : map hex_of ids ≡ texts = cc in
    (own_kind hash text id here digits.0 own.0, own_kinds hash texts ids rest digits.1 own.1)

-- one more of the ids, in their order
own_suc : (ids : List ObjectId) (i : ℕ) (d : ObjectId) → i < length ids → AllByRecursion HasOwnDigits (take i ids) → HasOwnDigits (slice_index_or ids i d) → AllByRecursion HasOwnDigits (take (suc i) ids)
own_suc [] i d within p q = absurd (omega (arith, within))
own_suc (id ∷ ids) zero d within p q = (q, tt)
own_suc (id ∷ ids) (suc i) d within p q = (p.0, own_suc ids i d (omega (arith, within)) p.1 q)

pub own_next : (ids : List ObjectId) (i : ℕ) (d : ObjectId) → i < length ids → AllByRecursion HasOwnDigits (take i ids) → HasOwnDigits (slice_index_or ids i d) → AllByRecursion HasOwnDigits (take (i + 1) ids)
own_next ids i d within p q = let e : suc i ≡ i + 1 = omega arith in subst (λ n. AllByRecursion HasOwnDigits (take n ids)) e (own_suc ids i d within p q)

-- the ids of the commit have the digits of their kind
pub record HasOwnIds (c : Commit) : Type 0 where
  pub tree : HasOwnDigits c.tree
  pub parents : AllByRecursion HasOwnDigits c.parents

commit_kinds : (hash : HashKind) (bytes : List ℕ) (text : CommitText) (c : Commit) → SpellsCommit hash bytes text → hex_of c.tree ≡ text.tree → map hex_of c.parents ≡ text.parents → HasOwnIds c → IsOfHash hash c
commit_kinds hash bytes text c spells tree parents own = record {
  tree = own_kind hash text.tree c.tree tree spells.tree_id own.tree;
  parents = own_kinds hash text.parents c.parents parents spells.parent_ids own.parents;
}

pub own_commit_back : (c owned : Commit) → HasOwnIds c → HasOwnIds owned → (hash : HashKind) (text : CommitText) → CanWriteCommit hash c → IsWholeMinutes c.author.time.offset → IsWholeMinutes c.committer.time.offset
    → SpellsCommit hash (commit_bytes c) text → IsCopyOf text owned → owned ≡ c
own_commit_back c owned own other hash text can author committer spells copy =
    let kinds = commit_kinds hash (commit_bytes c) (written_commit c) c (commit_spelled hash c can) refl refl own in
    let others = commit_kinds hash (commit_bytes c) text owned spells copy.tree copy.parents other in
    commit_back hash c owned text can author committer kinds others spells copy

pub own_tag_back : (t owned : Tag) → HasOwnDigits t.target → HasOwnDigits owned.target → (hash : HashKind) (text : TagText) → CanWriteTag hash t → TaggerHas (λ time. IsWholeMinutes time.offset) t.tagger
    → SpellsTag hash (tag_bytes t) text → OwnsTag text owned → owned ≡ t
own_tag_back t owned own other hash text can whole spells owns =
    let kind = own_kind hash (hex_of t.target) t.target refl can.target own in
    tag_back hash t owned text can whole kind (own_kind hash text.target owned.target owns.target spells.target_id other) spells owns
