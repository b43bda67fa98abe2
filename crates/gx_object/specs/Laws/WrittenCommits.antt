-- What is written of a commit spells it.
use Rattle.std.proofs.Common.{◌≡◌, ◌≢◌, ◌∙◌, sym, ap, refl, ℕ, ◌==◌, ◌&&◌, not, true, List, [], ◌∷◌, ◌++◌, length, map, codes, append_assoc, Option, Some, None}
use Rattle.std.specs.List.{flat_map, list_all, AllByRecursion}
use Rattle.std.proofs.lemmas.Bool.{and_parts, not-true, eqb-false}
use Rattle.gx_hash.specs.declared.kind.HashKind.{HashKind}
use Rattle.gx_hash.specs.declared.oid.ObjectId.{ObjectId}
use Rattle.gx_hash.specs.ObjectId.{hex_of}
use Rattle.gx_object.specs.declared.commit.Commit.{Commit}
use Rattle.gx_object.specs.declared.commit.OwnedHeader.{OwnedHeader}
use Rattle.gx_object.specs.declared.encode.Field.TheVariants.{AuthorName, AuthorEmail, AuthorOffset, CommitterName, CommitterEmail, CommitterOffset, Encoding, HeaderName}
use Rattle.gx_object.specs.declared.signature.Signature.{Signature}
use Rattle.gx_object.specs.Commit.{id_line, identity_line, head_bytes, encoding_line, header_line, commit_bytes, is_writable_header, is_writable_encoding}
use Rattle.gx_object.specs.CommitSpelling.{IsHeader, IsOneLine, HasEncoding, SpellsCommit, raw_line, text_line}
use Rattle.gx_object.specs.Identity.{identity_bytes, is_writable_text, is_writable_offset}
use Rattle.gx_object.specs.OwnedCommit.{IsCopyOf, owned_header}
use Rattle.gx_object.specs.OwnedTag.{OwnsIdentity}
use Rattle.gx_object.specs.WrittenText.{written_identity, written_header, written_commit, HasSeconds, IsWholeMinutes, CanWriteIdentity, HidesNoEncoding, CanWriteCommit}
use Rattle.gx_object.specs.Laws.Unfolding.{unfolded_again}
use Rattle.gx_object.specs.Laws.WrittenIdentities.{identity_spelled, identity_open, time_spelled}

-- Its lines.
pub id_text : (word : List ℕ) (id : ObjectId) → id_line word id ≡ text_line word (hex_of id)
id_text word id = append_assoc word (hex_of id) (10 ∷ [])

pub identity_text_line : (word : List ℕ) (who : Signature) → identity_line word who ≡ text_line word (identity_bytes who)
identity_text_line word who = append_assoc word (identity_bytes who) (10 ∷ [])

parent_texts : (word : List ℕ) (ids : List ObjectId) → flat_map (id_line word) ids ≡ flat_map (text_line word) (map hex_of ids)
parent_texts word [] = refl
parent_texts word (id ∷ ids) = ap (λ l. l ++ flat_map (id_line word) ids) (id_text word id) ∙ ap (λ l. text_line word (hex_of id) ++ l) (parent_texts word ids)

header_texts : (headers : List OwnedHeader) → flat_map header_line headers ≡ flat_map raw_line (map written_header headers)
header_texts [] = refl
header_texts (h ∷ hs) =
    let raw = (written_header h).raw in
    ap (λ l. l ++ flat_map header_line hs) (append_assoc h.name (32 ∷ raw) (10 ∷ []))
    ∙ ap (λ l. raw_line (written_header h) ++ l) (header_texts hs)

four_parts : (a a' b b' d d' e e' rest : List ℕ) → a ≡ a' → b ≡ b' → d ≡ d' → e ≡ e' → a ++ b ++ d ++ e ++ rest ≡ a' ++ (b' ++ (d' ++ (e' ++ rest)))
four_parts a a' b b' d d' e e' rest p q r s = rw (p, q, r, s) (simp append_assoc)

head_is : (c : Commit) (rest : List ℕ) → head_bytes c.tree c.parents c.author c.committer ++ rest
    ≡ text_line (codes "tree ") (hex_of c.tree) ++ (flat_map (text_line (codes "parent ")) (map hex_of c.parents) ++ (text_line (codes "author ") (identity_bytes c.author) ++ (text_line (codes "committer ") (identity_bytes c.committer) ++ rest)))
unfolding head_bytes
head_is c rest = four_parts _ _ _ _ _ _ _ _ rest (id_text (codes "tree ") c.tree) (parent_texts (codes "parent ") c.parents) (identity_text_line (codes "author ") c.author) (identity_text_line (codes "committer ") c.committer)

whole_is : (c : Commit) → commit_bytes c
    ≡ text_line (codes "tree ") (hex_of c.tree) ++ (flat_map (text_line (codes "parent ")) (map hex_of c.parents) ++ (text_line (codes "author ") (identity_bytes c.author) ++ (text_line (codes "committer ") (identity_bytes c.committer) ++ (encoding_line c.encoding ++ (flat_map raw_line (map written_header c.extra_headers) ++ 10 ∷ c.message)))))
unfolding commit_bytes
whole_is c = ap (λ l. head_bytes c.tree c.parents c.author c.committer ++ (encoding_line c.encoding ++ (l ++ 10 ∷ c.message))) (header_texts c.extra_headers) ∙ head_is c (encoding_line c.encoding ++ (flat_map raw_line (map written_header c.extra_headers) ++ 10 ∷ c.message))

-- What can be written.
pub can_identity : (who : Signature) → is_writable_text who.name ≡ true → is_writable_text who.email ≡ true → is_writable_offset who.time.offset ≡ true → HasSeconds who.time → CanWriteIdentity who
can_identity who name email offset seconds = record { fields = rw (name, email, offset) refl; seconds = seconds }

pub some_bytes : (text : List ℕ) → not (length text == 0) ≡ true → text ≢ []
some_bytes text p e = eqb-false (length text) 0 (not-true (length text == 0) p) (ap length e)

pub one_line : (text : List ℕ) → list_all (λ b. not (b == 10)) text ≡ true → IsOneLine text
one_line [] p = tt
one_line (b ∷ bs) p = let parts = and_parts _ _ p in (eqb-false b 10 (not-true _ parts.0), one_line bs parts.1)

name_bytes : (name : List ℕ) → list_all (λ b. not (b == 32) && not (b == 10)) name ≡ true → AllByRecursion (λ b. (b ≢ 32) × (b ≢ 10)) name
name_bytes [] p = tt
name_bytes (b ∷ bs) p =
    let parts = and_parts _ _ p in
    let here = and_parts (not (b == 32)) (not (b == 10)) parts.0 in
    ((eqb-false b 32 (not-true _ here.0), eqb-false b 10 (not-true _ here.1)), name_bytes bs parts.1)

headers_written : (headers : List OwnedHeader) → list_all is_writable_header headers ≡ true → AllByRecursion IsHeader (map written_header headers)
headers_written [] p = tt
headers_written (h ∷ hs) p =
    let parts = and_parts _ _ p in
    let here = and_parts (not (length h.name == 0)) (list_all (λ b. not (b == 32) && not (b == 10)) h.name) parts.0 in
    (((some_bytes h.name here.0, name_bytes h.name here.1), (h.value, refl)), headers_written hs parts.1)

encoding_written : (encoding : Option (List ℕ)) (headers : List OwnedHeader) → is_writable_encoding encoding ≡ true → HidesNoEncoding encoding headers → HasEncoding encoding (map written_header headers)
encoding_written None [] p q = tt
encoding_written None (h ∷ hs) p q = q
encoding_written (Some text) headers p q = let parts = and_parts (not (length text == 0)) (list_all (λ b. not (b == 10)) text) p in (some_bytes text parts.0, one_line text parts.1)

pub commit_spelled : (hash : HashKind) (c : Commit) → CanWriteCommit hash c → SpellsCommit hash (commit_bytes c) (written_commit c)
commit_spelled hash c can =
    let author = can_identity c.author (can.fields AuthorName) (can.fields AuthorEmail) (can.fields AuthorOffset) can.author_seconds in
    let committer = can_identity c.committer (can.fields CommitterName) (can.fields CommitterEmail) (can.fields CommitterOffset) can.committer_seconds in
    record {
      author_line = identity_bytes c.author;
      committer_line = identity_bytes c.committer;
      whole = whole_is c;
      tree_id = can.tree;
      parent_ids = can.parents;
      author_open = identity_open c.author author;
      author_is = identity_spelled c.author author;
      committer_open = identity_open c.committer committer;
      committer_is = identity_spelled c.committer committer;
      encoding_is = encoding_written c.encoding c.extra_headers (can.fields Encoding) can.encoding;
      headers = headers_written c.extra_headers (can.fields HeaderName);
    }

-- The copy.
same_header : (n v w : List ℕ) → v ≡ w → (let h : OwnedHeader = record { name = n; value = v } in h) ≡ record { name = n; value = w }
same_header n v w e = cc

headers_again : (headers : List OwnedHeader) → headers ≡ map owned_header (map written_header headers)
headers_again [] = refl
headers_again (h ∷ hs) =
    let first : h ≡ owned_header (written_header h) = same_header h.name h.value (owned_header (written_header h)).value (sym (unfolded_again h.value)) in
    ap (λ k. k ∷ hs) first ∙ ap (λ ks. owned_header (written_header h) ∷ ks) (headers_again hs)

pub owns_identity : (who : Signature) → HasSeconds who.time → is_writable_offset who.time.offset ≡ true → IsWholeMinutes who.time.offset → OwnsIdentity (written_identity who) who
owns_identity who fits writable whole = record { name = refl; email = refl; time = time_spelled who.time fits writable whole }

pub commit_copy : (hash : HashKind) (c : Commit) → CanWriteCommit hash c → IsWholeMinutes c.author.time.offset → IsWholeMinutes c.committer.time.offset → IsCopyOf (written_commit c) c
commit_copy hash c can author committer = record {
  tree = refl;
  parents = refl;
  author = owns_identity c.author can.author_seconds (can.fields AuthorOffset) author;
  committer = owns_identity c.committer can.committer_seconds (can.fields CommitterOffset) committer;
  encoding = refl;
  message = refl;
  extra_headers = headers_again c.extra_headers;
}
