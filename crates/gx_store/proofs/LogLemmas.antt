-- How lines of logs are cut into their parts.
use Rattle.std.proofs.Common.{◌≡◌, ◌≢◌, ◌≤◌, ◌<◌, ◌+◌, ◌==◌, ◌∙◌, ℕ, zero, suc, not, List, [], ◌∷◌, ◌++◌, length, take, drop, get_or, sym, ap, refl, subst, ne_eqb, arith, append_assoc, inl, inr, true, false}
use Rattle.std.proofs.lemmas.Bool.{eqb-true, eq-eqb, not_from_false, and_from, and_parts, not-true, eqb-false}
use Rattle.std.proofs.lemmas.List.{get_or-take, length-take-le, drop_more, take-append-drop}
use Rattle.std.specs.List.{AllByRecursion, list_all}
use Rattle.memchr.specs.Find.{Nowhere, NoneBefore, Passes, is_byte}
use Rattle.gx_hash.specs.declared.kind.HashKind.{HashKind}
use Rattle.gx_hash.specs.IdDigits.{IsHexId, IsLowerHexDigit}
use Rattle.gx_hash.specs.declared.oid.ObjectId.{ObjectId}
use Rattle.gx_hash.specs.HashKind.{IsOfKind}
use Rattle.gx_hash.specs.ObjectId.{hex_of}
use Rattle.gx_object.specs.declared.signature.Signature.{Signature}
use Rattle.gx_object.specs.declared.signature.Time.{Time}
use Rattle.gx_object.specs.IdentitySpelling.{IdentityText, SpellsIdentity}
use Rattle.gx_object.specs.Split.{Lacks}
use Rattle.gx_object.specs.TimeSpelling.{SpellsTime}
use Rattle.gx_store.specs.LogText.{EndsBeforeTab, HasParts, SpellsSignature, SpellsLine}
use Rattle.gx_store.specs.declared.log_line.LogLine.{LogLine}

no_byte : (byte : ℕ) (text : List ℕ) → ((k : ℕ) → k < length text → get_or text k 0 ≡ byte → ⊥) → Lacks byte text
no_byte byte [] none = refl
no_byte byte (b ∷ bs) none =
    and_from (not (b == byte)) _ (not_from_false (b == byte) (ne_eqb b byte (none 0 (omega arith)))) (no_byte byte bs (λ k within. none (suc k) (omega arith)))

-- a byte that a search finds nowhere
pub found_nowhere : (byte : ℕ) (text : List ℕ) → Nowhere (Passes (is_byte byte) text) 0 (length text) → Lacks byte text
found_nowhere byte text nowhere = no_byte byte text (λ k within is. nowhere k (omega arith) within (eq-eqb _ _ is))

-- what stands in front of the place that a search finds
pub found_behind : (byte : ℕ) (text : List ℕ) (at : ℕ) → NoneBefore (Passes (is_byte byte) text) 0 (length text) at → Lacks byte (take at text)
found_behind byte text at first =
    let high = first.high in
    let short : length (take at text) ≡ at = length-take-le at text (omega arith) in
    no_byte byte (take at text) (λ k within is. let below : k < at = omega arith in first.before k (omega arith) below (eq-eqb _ _ (sym (get_or-take at text k 0 below) ∙ is)))

-- the text is cut at that place
pub found_at : (byte : ℕ) (text : List ℕ) (at : ℕ) → at < length text → Passes (is_byte byte) text at → text ≡ take at text ++ byte ∷ drop (at + 1) text
found_at byte text at within here = sym (take-append-drop at text) ∙ ap (λ rest. take at text ++ rest) (drop_more text at 0 within ∙ ap (λ b. b ∷ drop (at + 1) text) (eqb-true _ _ here))

first_lacks : (byte b : ℕ) (bs : List ℕ) → Lacks byte (b ∷ bs) → (b ≡ byte → ⊥) × Lacks byte bs
first_lacks byte b bs lacks = let parts = and_parts _ _ lacks in (eqb-false b byte (not-true _ parts.0), parts.1)

-- a text is cut at a byte in one way, where it is the first
pub one_cut : (byte : ℕ) (a b x y : List ℕ) → Lacks byte a → Lacks byte b → a ++ byte ∷ x ≡ b ++ byte ∷ y → (a ≡ b) × (x ≡ y)
one_cut byte [] [] x y p q same = (refl, cc)
one_cut byte [] (d ∷ b) x y p q same = absurd ((first_lacks byte d b q).0 cc)
one_cut byte (c ∷ a) [] x y p q same = absurd ((first_lacks byte c a p).0 cc)
one_cut byte (c ∷ a) (d ∷ b) x y p q same =
    let head : c ≡ d = cc in
    let rest = one_cut byte a b x y (first_lacks byte c a p).1 (first_lacks byte d b q).1 cc in
    (cc (head, rest.0), rest.1)

-- a text that lacks the byte isn't cut there
pub no_cut : (byte : ℕ) (text front rest : List ℕ) → Lacks byte text → text ≡ front ++ byte ∷ rest → ⊥
no_cut byte [] [] rest lacks same = cc
no_cut byte [] (b ∷ front) rest lacks same = cc
no_cut byte (c ∷ text) [] rest lacks same = (first_lacks byte c text lacks).0 cc
no_cut byte (c ∷ text) (b ∷ front) rest lacks same = no_cut byte text front rest (first_lacks byte c text lacks).1 cc

digits_spaceless : (digits : List ℕ) → AllByRecursion IsLowerHexDigit digits → Lacks 32 digits
digits_spaceless [] all = refl
digits_spaceless (d ∷ ds) all = and_from (not (d == 32)) _ (not_from_false (d == 32) (ne_eqb d 32 (is_no_space d all.0))) (digits_spaceless ds all.1)
  where
    is_no_space : (d : ℕ) → IsLowerHexDigit d → d ≡ 32 → ⊥
    is_no_space d (inl p) same = let low = p.0 in omega arith
    is_no_space d (inr p) same = let low = p.0 in omega arith

-- the digits of an id have no space
pub id_spaceless : (hash : HashKind) (digits : List ℕ) → IsHexId hash digits → Lacks 32 digits
id_spaceless hash digits id = digits_spaceless digits id.digits

-- an id at the front of a text, and what follows it
pub same_id : (hash : HashKind) (text a b x y : List ℕ) → IsHexId hash a → IsHexId hash b → text ≡ a ++ 32 ∷ x → text ≡ b ++ 32 ∷ y → (a ≡ b) × (x ≡ y)
same_id hash text a b x y p q e f = one_cut 32 a b x y (id_spaceless hash a p) (id_spaceless hash b q) (sym e ∙ f)

pub regroup : (front behind message : List ℕ) → (front ++ 62 ∷ behind) ++ 9 ∷ message ≡ front ++ 62 ∷ (behind ++ 9 ∷ message)
regroup front behind message = append_assoc front (62 ∷ behind) (9 ∷ message)

-- an identity at the front of a text, and what follows it
pub same_identity : (text a b x y : List ℕ) → EndsBeforeTab a → EndsBeforeTab b → text ≡ a ++ 9 ∷ x → text ≡ b ++ 9 ∷ y → (a ≡ b) × (x ≡ y)
same_identity text a b x y (front, behind, whole, lacks, rest) (front', behind', whole', lacks', rest') e f =
    let left : text ≡ front ++ 62 ∷ (behind ++ 9 ∷ x) = e ∙ ap (λ i. i ++ 9 ∷ x) whole ∙ regroup front behind x in
    let right : text ≡ front' ++ 62 ∷ (behind' ++ 9 ∷ y) = f ∙ ap (λ i. i ++ 9 ∷ y) whole' ∙ regroup front' behind' y in
    let outer = one_cut 62 front front' (behind ++ 9 ∷ x) (behind' ++ 9 ∷ y) lacks lacks' (sym left ∙ right) in
    let inner = one_cut 9 behind behind' x y rest rest' outer.1 in
    (whole ∙ ap (λ i. i ++ 62 ∷ behind) outer.0 ∙ ap (λ i. front' ++ 62 ∷ i) inner.0 ∙ sym whole', inner.1)

-- a text without `>`, and one without a tab behind its first one, begin with no identity
pub no_close : (text identity message : List ℕ) → Lacks 62 text → EndsBeforeTab identity → text ≢ identity ++ 9 ∷ message
no_close text identity message none (front, behind, whole, lacks, rest) e =
    no_cut 62 text front (behind ++ 9 ∷ message) none (e ∙ ap (λ i. i ++ 9 ∷ message) whole ∙ regroup front behind message)

pub no_tab : (text f r identity message : List ℕ) → text ≡ f ++ 62 ∷ r → Lacks 62 f → Lacks 9 r → EndsBeforeTab identity → text ≢ identity ++ 9 ∷ message
no_tab text f r identity message cut lacks none (front, behind, whole, lacks', rest) e =
    let parts = one_cut 62 f front r (behind ++ 9 ∷ message) lacks lacks' (sym cut ∙ e ∙ ap (λ i. i ++ 9 ∷ message) whole ∙ regroup front behind message) in
    no_cut 9 r behind message none parts.1

-- a text spells one identity at most
abbrev pub IsSpelledOnce : Type 0
IsSpelledOnce = (text : List ℕ) (a b : IdentityText) → SpellsIdentity text a → SpellsIdentity text b → a ≡ b

-- the parts of a line are found in one way
pub record SameParts (previous new identity message previous' new' identity' message' : List ℕ) : Type 0 where
  pub same_previous : previous ≡ previous'
  pub same_new : new ≡ new'
  pub same_identity : identity ≡ identity'
  pub same_message : message ≡ message'

pub same_parts : (hash : HashKind) (bytes p n i m p' n' i' m' : List ℕ) → HasParts hash bytes p n i m → HasParts hash bytes p' n' i' m' → SameParts p n i m p' n' i' m'
same_parts hash bytes p n i m p' n' i' m' one other =
    let first = same_id hash bytes p p' (n ++ 32 ∷ (i ++ 9 ∷ m)) (n' ++ 32 ∷ (i' ++ 9 ∷ m')) one.old_id other.old_id one.whole other.whole in
    let second = same_id hash (n ++ 32 ∷ (i ++ 9 ∷ m)) n n' (i ++ 9 ∷ m) (i' ++ 9 ∷ m') one.new_id other.new_id refl first.1 in
    let third = same_identity (i ++ 9 ∷ m) i i' m m' one.ends other.ends refl second.1 in
    record { same_previous = first.0; same_new = second.0; same_identity = third.0; same_message = third.1 }

-- ---- a line without one of its parts

-- no id at the front
pub no_old_id : (hash : HashKind) (bytes : List ℕ) → ((digits rest : List ℕ) → IsHexId hash digits → bytes ≢ digits ++ 32 ∷ rest)
    → (p n i m : List ℕ) → HasParts hash bytes p n i m → ⊥
no_old_id hash bytes none p n i m parts = none p (n ++ 32 ∷ (i ++ 9 ∷ m)) parts.old_id parts.whole

-- none behind it
pub no_new_id : (hash : HashKind) (bytes old rest : List ℕ) → IsHexId hash old → bytes ≡ old ++ 32 ∷ rest
    → ((digits more : List ℕ) → IsHexId hash digits → rest ≢ digits ++ 32 ∷ more)
    → (p n i m : List ℕ) → HasParts hash bytes p n i m → ⊥
no_new_id hash bytes old rest id cut none p n i m parts =
    let same = same_id hash bytes old p rest (n ++ 32 ∷ (i ++ 9 ∷ m)) id parts.old_id cut parts.whole in
    none n (i ++ 9 ∷ m) parts.new_id same.1

-- what is behind both ids
pub behind_ids : (hash : HashKind) (bytes old new rest more : List ℕ) → IsHexId hash old → bytes ≡ old ++ 32 ∷ rest → IsHexId hash new → rest ≡ new ++ 32 ∷ more
    → (p n i m : List ℕ) → HasParts hash bytes p n i m → more ≡ i ++ 9 ∷ m
behind_ids hash bytes old new rest more id cut id' cut' p n i m parts =
    let same = same_id hash bytes old p rest (n ++ 32 ∷ (i ++ 9 ∷ m)) id parts.old_id cut parts.whole in
    let same' = same_id hash rest new n more (i ++ 9 ∷ m) id' parts.new_id cut' same.1 in
    same'.1

-- no identity there
pub no_identity : (hash : HashKind) (bytes old new rest more : List ℕ) → IsHexId hash old → bytes ≡ old ++ 32 ∷ rest → IsHexId hash new → rest ≡ new ++ 32 ∷ more
    → ((identity message : List ℕ) → EndsBeforeTab identity → more ≢ identity ++ 9 ∷ message)
    → (p n i m : List ℕ) → HasParts hash bytes p n i m → ⊥
no_identity hash bytes old new rest more id cut id' cut' none p n i m parts = none i m parts.ends (behind_ids hash bytes old new rest more id cut id' cut' p n i m parts)

-- a newline in the message
pub no_newline : (hash : HashKind) (bytes old new rest more identity message : List ℕ) → IsHexId hash old → bytes ≡ old ++ 32 ∷ rest → IsHexId hash new → rest ≡ new ++ 32 ∷ more
    → EndsBeforeTab identity → more ≡ identity ++ 9 ∷ message → list_all (λ byte. not (byte == 10)) message ≡ false
    → (p n i m : List ℕ) → HasParts hash bytes p n i m → ⊥
no_newline hash bytes old new rest more identity message id cut id' cut' ends cut'' there p n i m parts =
    let same = same_identity more identity i message m ends parts.ends cut'' (behind_ids hash bytes old new rest more id cut id' cut' p n i m parts) in
    let one : Lacks 10 message = subst (Lacks 10) (sym same.1) parts.one in
    absurd (cc (there, one))

pub has_parts : (hash : HashKind) (bytes old new rest more identity message : List ℕ) → IsHexId hash old → bytes ≡ old ++ 32 ∷ rest → IsHexId hash new → rest ≡ new ++ 32 ∷ more
    → EndsBeforeTab identity → more ≡ identity ++ 9 ∷ message → Lacks 10 message → HasParts hash bytes old new identity message
has_parts hash bytes old new rest more identity message id cut id' cut' ends cut'' none = record {
  whole = cut ∙ ap (λ x. old ++ 32 ∷ x) (cut' ∙ ap (λ x. new ++ 32 ∷ x) cut'');
  old_id = id;
  new_id = id';
  ends = ends;
  one = none;
}

-- ---- the identity of a line

spelled_in : (text text' : List ℕ) (who : Signature) → text ≡ text' → SpellsSignature text' who → SpellsSignature text who
spelled_in text text' who same spelled = subst (λ t. SpellsSignature t who) (sym same) spelled

-- a line whose identity is none
pub no_signature : (hash : HashKind) (bytes p n i m : List ℕ) → HasParts hash bytes p n i m → ((who : Signature) → ¬ SpellsSignature i who)
    → (line : LogLine) → SpellsLine hash bytes line → ⊥
no_signature hash bytes p n i m parts none line spelled =
    let same = same_parts hash bytes p n i m _ _ _ _ parts spelled.parts in
    none line.signature (spelled_in i spelled.identity line.signature same.same_identity spelled.signature)

-- where there is no line, and the other parts are there, the identity is none
pub only_signature : (hash : HashKind) (bytes : List ℕ) (old new : ObjectId) (i m : List ℕ) → HasParts hash bytes (hex_of old) (hex_of new) i m
    → IsOfKind hash old → IsOfKind hash new → ((line : LogLine) → ¬ SpellsLine hash bytes line) → (who : Signature) → SpellsSignature i who → ⊥
only_signature hash bytes old new i m parts kind kind' none who spelled =
    none (record { previous = old; new = new; signature = who; message = m }) (record { identity = i; parts = parts; kind = (kind, kind'); signature = spelled })

-- an identity whose time is none
pub no_time : IsSpelledOnce → (text : List ℕ) (who : IdentityText) → SpellsIdentity text who → ((time : Time) → ¬ SpellsTime who.time time)
    → (owned : Signature) → SpellsSignature text owned → ⊥
no_time once text who spelled none owned other =
    let same = once text who _ spelled other.spelled in
    none owned.time (subst (λ t. SpellsTime t owned.time) (sym (ap (λ w. w.time) same)) other.time)

-- where the identity is none, and its texts are there, the time is none
pub only_time : (text : List ℕ) (who : IdentityText) → SpellsIdentity text who → ((owned : Signature) → ¬ SpellsSignature text owned)
    → (time : Time) → SpellsTime who.time time → ⊥
only_time text who spelled none time is =
    none (record { name = who.name; email = who.email; time = time }) (record { time_text = who.time; spelled = spelled; time = is })

-- a copy of an identity's texts, with its time, is the identity of the text
pub owned_signature : (text : List ℕ) (who : IdentityText) (owned : Signature) → SpellsIdentity text who → owned.name ≡ who.name → owned.email ≡ who.email
    → SpellsTime who.time owned.time → SpellsSignature text owned
owned_signature text who owned spelled name email time = record {
  time_text = who.time;
  spelled = subst (λ e. SpellsIdentity text (record { name = owned.name; email = e; time = who.time })) (sym email) (subst (λ n. SpellsIdentity text (record { name = n; email = who.email; time = who.time })) (sym name) spelled);
  time = time;
}
