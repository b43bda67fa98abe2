-- Lines are parted into their fields in one way only.
use Rattle.std.proofs.Common.{◌≡◌, ◌≢◌, ◌∙◌, sym, ap, refl, subst, ℕ, ◌+◌, ◌-◌, ◌≤◌, ◌^◌, List, [], ◌∷◌, ◌++◌, codes, arith, Bool, true, false, Some, None, inl, inr, cond, nat_eq}
use Rattle.std.proofs.lemmas.Bool.Decides.{eqb_tells}
use Rattle.std.specs.Fmt.{decimal, signed_decimal}
use Rattle.std.proofs.lemmas.List.{append_cancel_left}
use Rattle.gx_hash.specs.ObjectId.{hex_of}
use Rattle.gx_hash.specs.declared.kind.HashKind.{HashKind}
use Rattle.gx_hash.specs.declared.oid.ObjectId.{ObjectId}
use Rattle.gx_hash.specs.IdDigits.{IsLowerHexDigit}
use Rattle.gx_object.specs.Kind.{kind_name, kind_named}
use Rattle.gx_object.specs.declared.kind.Kind.{Kind}
use Rattle.gx_object.specs.declared.kind.Kind.TheVariants as kinds
use Rattle.gx_rules.specs.Name.{IsFullName, IsPartialName}
use Rattle.gx_store.specs.declared.target.Target.{Target}
use Rattle.gx_store.specs.declared.target.Target.TheVariants.{Object, Symbolic}
use Rattle.gx_script.specs.declared.change.PutKind.{PutKind}
use Rattle.gx_script.specs.declared.change.PutKind.TheVariants as put_kind
use Rattle.gx_script.specs.declared.lists.WalkId.{WalkId}
use Rattle.gx_script.specs.declared.request.Expect.{Expect}
use Rattle.gx_script.specs.declared.request.NameSet.{NameSet}
use Rattle.gx_script.specs.declared.request.NameSet.TheVariants.{Tags, AllTags, AllRefs}
use Rattle.gx_script.specs.declared.request.Order.{Order}
use Rattle.gx_script.specs.declared.request.Order.TheVariants.{Breadth, Newest, Oldest, NewestFrom, OldestFrom}
use Rattle.gx_script.specs.Fields.{IsId, IsTarget, IsExpect, IsOrder, target_text, expect_text, order_text, set_text, walk_id_text, hidden_text}
use Rattle.gx_script.specs.Grammar.{tag_text, ref_text, put_word}
use Rattle.gx_script.specs.History.{IsDescribe, describe_line}
use Rattle.gx_script.specs.Items.{Without, IsField, block_limit}
use Rattle.gx_script.specs.Lines.{IsNotBehind, Splits, IsNoPair, IsPair, IsNoTriple, IsTriple, IsNoNumber, IsNoSize, IsNoId, IsNoKind, IsNoTarget, IsNoExpect, IsNoSet, IsNoWalkId, IsNoDelete, IsNoDescribe, IsNoNoteDrop, IsNoTag, IsNoRef, IsNoNoteSet}
use Rattle.gx_script.specs.Notes.{IsNote}
use Rattle.gx_script.proofs.IdLemmas.{hex_space, hex_first}
use Rattle.gx_script.proofs.LineLemmas.{has_byte, same_split, without_append, decimal_without, no_space, signed_space}
use Rattle.gx_script.proofs.NameLemmas.{full_space, partial_space}

pub no_pair : (word line rest : List ℕ) → line ≡ word ++ rest → Without 32 rest → IsNoPair word line
no_pair word line rest is none first more whole e = has_byte 32 first more (subst (Without 32) (append_cancel_left word rest (first ++ 32 ∷ more) (sym is ∙ e)) none)

pub is_pair : (word line rest a b : List ℕ) → line ≡ word ++ rest → Splits 32 rest a b → IsPair word line a b
is_pair word line rest a b is s = record { is = is ∙ ap (λ (l : List ℕ). word ++ l) s.is; whole = s.first }

pub same_pair : (word line a b x y : List ℕ) → IsPair word line a b → Without 32 x → line ≡ word ++ (x ++ 32 ∷ y) → (a ≡ x) × (b ≡ y)
same_pair word line a b x y p whole e = same_split 32 a x b y p.whole whole (append_cancel_left word (a ++ 32 ∷ b) (x ++ 32 ∷ y) (sym p.is ∙ e))

pub no_triple_first : (word line : List ℕ) → IsNoPair word line → IsNoTriple word line
no_triple_first word line none first second rest p q e = none first (second ++ 32 ∷ rest) p e

pub no_triple : (word line a b : List ℕ) → IsPair word line a b → Without 32 b → IsNoTriple word line
no_triple word line a b h none first second rest p q e = has_byte 32 second rest (subst (Without 32) (same_pair word line a b first (second ++ 32 ∷ rest) h p e).1 none)

pub is_triple : (word line a b c d : List ℕ) → IsPair word line a b → Splits 32 b c d → IsTriple word line a c d
is_triple word line a b c d h s = record { is = h.is ∙ ap (λ (l : List ℕ). word ++ (a ++ 32 ∷ l)) s.is; whole = h.whole; also = s.first }

pub record SameThree (a b c x y z : List ℕ) : Type 0 where
  pub first : a ≡ x
  pub second : b ≡ y
  pub third : c ≡ z

pub same_triple : (word line a b c x y z : List ℕ) → IsTriple word line a b c → Without 32 x → Without 32 y → line ≡ word ++ (x ++ 32 ∷ (y ++ 32 ∷ z)) → SameThree a b c x y z
same_triple word line a b c x y z h p q e =
    let outer = same_split 32 a x (b ++ 32 ∷ c) (y ++ 32 ∷ z) h.whole p (append_cancel_left word (a ++ 32 ∷ (b ++ 32 ∷ c)) (x ++ 32 ∷ (y ++ 32 ∷ z)) (sym h.is ∙ e)) in
    let inner = same_split 32 b y c z h.also q outer.1 in
    record { first = outer.0; second = inner.0; third = inner.1 }

-- No byte of a literal is a space.
abbrev pub is_spaceless : List ℕ → Bool
is_spaceless [] = true
is_spaceless (x ∷ xs) = cond (nat_eq x 32) false (is_spaceless xs)

pub spaceless : (xs : List ℕ) → is_spaceless xs ≡ true → Without 32 xs
spaceless [] e = tt
spaceless (x ∷ xs) e = elim (eqb_tells x 32) [
  | inl p ↦ let h : cond (nat_eq x 32) false (is_spaceless xs) ≡ false = ap (λ b. cond b false (is_spaceless xs)) p.0 in let no : false ≡ true = sym h ∙ e in absurd (cc)
  | inr p ↦ (p.1, spaceless xs (sym (ap (λ b. cond b false (is_spaceless xs)) p.0) ∙ e))
]

-- Kinds, targets, expectations, orders and sets.
pub no_kind : (bytes : List ℕ) → kind_named bytes ≡ None → IsNoKind bytes
no_kind bytes none kinds.Blob e = let h : kind_named (codes "blob") ≡ None = subst (λ (b : List ℕ). kind_named b ≡ None) e none in let no : Some kinds.Blob ≡ None = h in cc
no_kind bytes none kinds.Tree e = let h : kind_named (codes "tree") ≡ None = subst (λ (b : List ℕ). kind_named b ≡ None) e none in let no : Some kinds.Tree ≡ None = h in cc
no_kind bytes none kinds.Commit e = let h : kind_named (codes "commit") ≡ None = subst (λ (b : List ℕ). kind_named b ≡ None) e none in let no : Some kinds.Commit ≡ None = h in cc
no_kind bytes none kinds.Tag e = let h : kind_named (codes "tag") ≡ None = subst (λ (b : List ℕ). kind_named b ≡ None) e none in let no : Some kinds.Tag ≡ None = h in cc

pub target_space : (hash : HashKind) (target : Target) → IsTarget hash target → Without 32 (target_text target)
target_space hash (Object id) h = hex_space hash id h
target_space hash (Symbolic name) h = ((λ e. absurd (omega arith)), full_space name h)

pub set_space : (names : NameSet) → Without 32 (set_text names)
set_space Tags = spaceless (codes "tags") refl
set_space AllTags = spaceless (codes "all-tags") refl
set_space AllRefs = spaceless (codes "all-refs") refl

pub put_space : (kind : PutKind) → Without 32 (put_word kind)
put_space put_kind.File = spaceless (codes "file") refl
put_space put_kind.Executable = spaceless (codes "exec") refl
put_space put_kind.Link = spaceless (codes "link") refl

pub order_space : (order : Order) → IsOrder order → Without 32 (order_text order)
order_space Breadth h = spaceless (codes "breadth") refl
order_space Newest h = spaceless (codes "newest") refl
order_space Oldest h = spaceless (codes "oldest") refl
order_space (NewestFrom seconds) h = without_append 32 (codes "newest:") (signed_decimal seconds) (spaceless (codes "newest:") refl) (signed_space seconds h)
order_space (OldestFrom seconds) h = without_append 32 (codes "oldest:") (signed_decimal seconds) (spaceless (codes "oldest:") refl) (signed_space seconds h)

hidden_space : (hidden : Bool) → Without 32 (hidden_text hidden)
hidden_space true = spaceless (codes "^") refl
hidden_space false = tt

pub walk_id_space : (hash : HashKind) (walked : WalkId) → IsId hash walked.id → Without 32 (walk_id_text walked)
walk_id_space hash walked h = without_append 32 (hidden_text walked.hidden) (hex_of walked.id) (hidden_space walked.hidden) (hex_space hash walked.id h)

pub size_space : (n : ℕ) → n ≤ block_limit → Without 32 (decimal n)
size_space n le = decimal_without 32 n no_space (omega arith)

-- Lines that are of no form.
pub no_delete : (hash : HashKind) (line : List ℕ) → IsNoPair (codes "delete ") line → IsNoDelete hash line
no_delete hash line none name expect fits e = none name (expect_text expect) (full_space name fits.0) e

pub no_delete_name : (hash : HashKind) (line a b : List ℕ) → IsPair (codes "delete ") line a b → (IsFullName a → ⊥) → IsNoDelete hash line
no_delete_name hash line a b p none name expect fits e = none (subst IsFullName (sym (same_pair (codes "delete ") line a b name (expect_text expect) p (full_space name fits.0) e).0) fits.0)

pub no_delete_expect : (hash : HashKind) (line a b : List ℕ) → IsPair (codes "delete ") line a b → IsNoExpect hash b → IsNoDelete hash line
no_delete_expect hash line a b p none name expect fits e = none expect fits.1 (same_pair (codes "delete ") line a b name (expect_text expect) p (full_space name fits.0) e).1

pub no_drop : (hash : HashKind) (line : List ℕ) → IsNoPair (codes "note-drop ") line → IsNoNoteDrop hash line
no_drop hash line none name id fits e = none name (hex_of id) (partial_space name fits.0) e

pub no_drop_name : (hash : HashKind) (line a b : List ℕ) → IsPair (codes "note-drop ") line a b → (IsPartialName a → ⊥) → IsNoNoteDrop hash line
no_drop_name hash line a b p none name id fits e = none (subst IsPartialName (sym (same_pair (codes "note-drop ") line a b name (hex_of id) p (partial_space name fits.0) e).0) fits.0)

pub no_drop_id : (hash : HashKind) (line a b : List ℕ) → IsPair (codes "note-drop ") line a b → IsNoId hash b → IsNoNoteDrop hash line
no_drop_id hash line a b p none name id fits e = none id fits.1 (same_pair (codes "note-drop ") line a b name (hex_of id) p (partial_space name fits.0) e).1

describe_same : (hash : HashKind) (line a b c : List ℕ) (names : NameSet) (max : ℕ) (id : ObjectId) → IsTriple (codes "describe ") line a b c → IsDescribe hash max id → line ≡ describe_line names max id → SameThree a b c (set_text names) (decimal max) (hex_of id)
describe_same hash line a b c names max id p fits e = same_triple (codes "describe ") line a b c (set_text names) (decimal max) (hex_of id) p (set_space names) (decimal_without 32 max no_space fits.0) e

pub no_describe : (hash : HashKind) (line : List ℕ) → IsNoTriple (codes "describe ") line → IsNoDescribe hash line
no_describe hash line none names max id fits e = none (set_text names) (decimal max) (hex_of id) (set_space names) (decimal_without 32 max no_space fits.0) e

pub no_describe_set : (hash : HashKind) (line a b c : List ℕ) → IsTriple (codes "describe ") line a b c → IsNoSet a → IsNoDescribe hash line
no_describe_set hash line a b c p none names max id fits e = none names (describe_same hash line a b c names max id p fits e).first

pub no_describe_max : (hash : HashKind) (line a b c : List ℕ) → IsTriple (codes "describe ") line a b c → IsNoNumber b → IsNoDescribe hash line
no_describe_max hash line a b c p none names max id fits e = none max fits.0 (describe_same hash line a b c names max id p fits e).second

pub no_describe_id : (hash : HashKind) (line a b c : List ℕ) → IsTriple (codes "describe ") line a b c → IsNoId hash c → IsNoDescribe hash line
no_describe_id hash line a b c p none names max id fits e = none id fits.1 (describe_same hash line a b c names max id p fits e).third

tag_same : (hash : HashKind) (line a b c name : List ℕ) (target : ObjectId) (kind : Kind) → IsTriple (codes "tag ") line a b c → (name ≢ []) × IsField name × IsId hash target → line ≡ tag_text name target kind → SameThree a b c name (hex_of target) (kind_name kind)
tag_same hash line a b c name target kind p fits e = same_triple (codes "tag ") line a b c name (hex_of target) (kind_name kind) p fits.1.whole (hex_space hash target fits.2) e

pub no_tag : (hash : HashKind) (line : List ℕ) → IsNoTriple (codes "tag ") line → IsNoTag hash line
no_tag hash line none name target kind fits e = none name (hex_of target) (kind_name kind) fits.1.whole (hex_space hash target fits.2) e

pub no_tag_id : (hash : HashKind) (line a b c : List ℕ) → IsTriple (codes "tag ") line a b c → IsNoId hash b → IsNoTag hash line
no_tag_id hash line a b c p none name target kind fits e = none target fits.2 (tag_same hash line a b c name target kind p fits e).second

pub no_tag_kind : (hash : HashKind) (line a b c : List ℕ) → IsTriple (codes "tag ") line a b c → IsNoKind c → IsNoTag hash line
no_tag_kind hash line a b c p none name target kind fits e = none kind (tag_same hash line a b c name target kind p fits e).third

pub no_tag_name : (hash : HashKind) (line a b c : List ℕ) → IsTriple (codes "tag ") line a b c → a ≡ [] → IsNoTag hash line
no_tag_name hash line a b c p none name target kind fits e = fits.0 (sym (tag_same hash line a b c name target kind p fits e).first ∙ none)

ref_same : (hash : HashKind) (line a b c name : List ℕ) (target : Target) (expect : Expect) → IsTriple (codes "ref ") line a b c → IsFullName name × IsTarget hash target × IsExpect hash expect → line ≡ ref_text name target expect → SameThree a b c name (target_text target) (expect_text expect)
ref_same hash line a b c name target expect p fits e = same_triple (codes "ref ") line a b c name (target_text target) (expect_text expect) p (full_space name fits.0) (target_space hash target fits.1) e

pub no_ref : (hash : HashKind) (line : List ℕ) → IsNoTriple (codes "ref ") line → IsNoRef hash line
no_ref hash line none name target expect fits e = none name (target_text target) (expect_text expect) (full_space name fits.0) (target_space hash target fits.1) e

pub no_ref_name : (hash : HashKind) (line a b c : List ℕ) → IsTriple (codes "ref ") line a b c → (IsFullName a → ⊥) → IsNoRef hash line
no_ref_name hash line a b c p none name target expect fits e = none (subst IsFullName (sym (ref_same hash line a b c name target expect p fits e).first) fits.0)

pub no_ref_target : (hash : HashKind) (line a b c : List ℕ) → IsTriple (codes "ref ") line a b c → IsNoTarget hash b → IsNoRef hash line
no_ref_target hash line a b c p none name target expect fits e = none target fits.1 (ref_same hash line a b c name target expect p fits e).second

pub no_ref_expect : (hash : HashKind) (line a b c : List ℕ) → IsTriple (codes "ref ") line a b c → IsNoExpect hash c → IsNoRef hash line
no_ref_expect hash line a b c p none name target expect fits e = none expect fits.2 (ref_same hash line a b c name target expect p fits e).third

note_same : (hash : HashKind) (line a b c name : List ℕ) (object : ObjectId) (size : ℕ) → IsTriple (codes "note-set ") line a b c → IsNote hash name object → line ≡ codes "note-set " ++ (name ++ 32 ∷ (hex_of object ++ 32 ∷ decimal size)) → SameThree a b c name (hex_of object) (decimal size)
note_same hash line a b c name object size p fits e = same_triple (codes "note-set ") line a b c name (hex_of object) (decimal size) p (partial_space name fits.0) (hex_space hash object fits.1) e

pub no_note : (hash : HashKind) (line : List ℕ) → IsNoTriple (codes "note-set ") line → IsNoNoteSet hash line
no_note hash line none name object size fits e = none name (hex_of object) (decimal size) (partial_space name fits.0.0) (hex_space hash object fits.0.1) e

pub no_note_name : (hash : HashKind) (line a b c : List ℕ) → IsTriple (codes "note-set ") line a b c → (IsPartialName a → ⊥) → IsNoNoteSet hash line
no_note_name hash line a b c p none name object size fits e = none (subst IsPartialName (sym (note_same hash line a b c name object size p fits.0 e).first) fits.0.0)

pub no_note_id : (hash : HashKind) (line a b c : List ℕ) → IsTriple (codes "note-set ") line a b c → IsNoId hash b → IsNoNoteSet hash line
no_note_id hash line a b c p none name object size fits e = none object fits.0.1 (note_same hash line a b c name object size p fits.0 e).second

pub no_note_size : (hash : HashKind) (line a b c : List ℕ) → IsTriple (codes "note-set ") line a b c → IsNoSize c → IsNoNoteSet hash line
no_note_size hash line a b c p none name object size fits e = none size fits.1 (note_same hash line a b c name object size p fits.0 e).third

-- Targets and hidden ids begin with bytes that are no digits.
pub no_target : (hash : HashKind) (bytes : List ℕ) → IsNotBehind (codes "@") bytes → IsNoId hash bytes → IsNoTarget hash bytes
no_target hash bytes name none (Object id) fits e = none id fits e
no_target hash bytes name none (Symbolic other) fits e = name other e

pub no_walk_id : (hash : HashKind) (bytes hex : List ℕ) → bytes ≡ codes "^" ++ hex → IsNoId hash hex → IsNoWalkId hash bytes
no_walk_id hash bytes hex is none walked fits e = go walked.hidden e
  where
    caret : IsLowerHexDigit 94 → ⊥
    caret (inl p) = omega (arith, p.1)
    caret (inr p) = omega (arith, p.0)

    go : (hidden : Bool) → bytes ≡ hidden_text hidden ++ hex_of walked.id → ⊥
    go true f = let h : hex ≡ hex_of walked.id = let g : codes "^" ++ hex ≡ codes "^" ++ hex_of walked.id = sym is ∙ f in cc in none walked.id fits h
    go false f = caret (hex_first hash walked.id 94 hex fits (sym f ∙ is))
