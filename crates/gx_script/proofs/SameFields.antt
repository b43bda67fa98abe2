-- Fields that are spelled alike are the same.
use Rattle.std.proofs.Common.{◌≡◌, ◌∙◌, sym, ap, refl, ℕ, ℤ, ◌+◌, List, [], ◌∷◌, ◌++◌, length, map, get_or, codes, arith, append_assoc, Bool, true, false, Option, Some, None, FitsSigned, inl, inr}
use Rattle.std.specs.Int.{w64}
use Rattle.std.specs.Fmt.{decimal, signed_decimal}
use Rattle.std.specs.List.{AllByRecursion, flat_map}
use Rattle.std.proofs.lemmas.Fmt.{signed_decimal_injective}
use Rattle.std.proofs.lemmas.List.{append_cancel_left}
use Rattle.gx_edit.specs.declared.path_edit.PathEdit.{PathEdit}
use Rattle.gx_edit.specs.declared.path_edit.PathEdit.TheVariants.{File, Link, Module, Remove}
use Rattle.gx_hash.specs.ObjectId.{hex_of}
use Rattle.gx_hash.specs.declared.kind.HashKind.{HashKind}
use Rattle.gx_hash.specs.declared.oid.ObjectId.{ObjectId}
use Rattle.gx_hash.specs.IdDigits.{IsLowerHexDigit}
use Rattle.gx_object.specs.Kind.{kind_name, kind_named}
use Rattle.gx_object.specs.declared.kind.Kind.{Kind}
use Rattle.gx_object.specs.declared.kind.Kind.TheVariants as kinds
use Rattle.gx_object.specs.declared.signature.Signature.{Signature}
use Rattle.gx_store.specs.declared.target.Target.{Target}
use Rattle.gx_store.specs.declared.target.Target.TheVariants.{Object, Symbolic}
use Rattle.gx_script.specs.declared.lists.WalkId.{WalkId}
use Rattle.gx_script.specs.declared.request.Expect.{Expect}
use Rattle.gx_script.specs.declared.request.Expect.TheVariants.{Any, Exists, Absent, Match, MatchOrAbsent}
use Rattle.gx_script.specs.declared.request.NameSet.{NameSet}
use Rattle.gx_script.specs.declared.request.NameSet.TheVariants.{Tags, AllTags, AllRefs}
use Rattle.gx_script.specs.declared.request.Order.{Order}
use Rattle.gx_script.specs.declared.request.Order.TheVariants.{Breadth, Newest, Oldest, NewestFrom, OldestFrom}
use Rattle.gx_script.specs.Commits.{put_line, module_line, drop_line, edit_items, edits_items, content_items, parent_item, IsEdit}
use Rattle.gx_script.specs.Fields.{IsId, IsIdentity, IsPerson, IsTarget, IsExpect, IsOrder, who_text, person_items, message_line, end_line, target_text, expect_text, order_text, set_text, walk_id_text, hidden_text}
use Rattle.gx_script.specs.Items.{Item, Line, Block, Without, spaced}
use Rattle.gx_script.specs.References.{message_items}
use Rattle.gx_script.proofs.IdLemmas.{same_id, hex_space, hex_first}
use Rattle.gx_script.proofs.LineLemmas.{same_split, signed_space}
use Rattle.gx_script.proofs.NumberLemmas.{mag_small, wide}
use Rattle.gx_script.proofs.SpacedLemmas.{same_cut, spaced_tail}

same_number : (y z : ℤ) → FitsSigned w64 y → FitsSigned w64 z → signed_decimal y ≡ signed_decimal z → y ≡ z
same_number y z p q e = signed_decimal_injective y z (mag_small y p) (mag_small z q) e

pub same_who : (who other : Signature) → IsIdentity who → IsIdentity other → who_text who ≡ who_text other → who ≡ other
same_who who other p q e =
    let first = same_split 32 (signed_decimal who.time.seconds) (signed_decimal other.time.seconds) (signed_decimal who.time.offset ++ 32 ∷ (who.name ++ 9 ∷ who.email)) (signed_decimal other.time.offset ++ 32 ∷ (other.name ++ 9 ∷ other.email))
    (signed_space who.time.seconds p.seconds) (signed_space other.time.seconds q.seconds) e in
    let second = same_split 32 (signed_decimal who.time.offset) (signed_decimal other.time.offset) (who.name ++ 9 ∷ who.email) (other.name ++ 9 ∷ other.email)
    (signed_space who.time.offset (wide who.time.offset p.offset)) (signed_space other.time.offset (wide other.time.offset q.offset)) first.1 in
    let third = same_split 9 who.name other.name who.email other.email p.name q.name second.1 in
    let seconds : who.time.seconds ≡ other.time.seconds = same_number who.time.seconds other.time.seconds p.seconds q.seconds first.0 in
    let offset : who.time.offset ≡ other.time.offset = same_number who.time.offset other.time.offset (wide who.time.offset p.offset) (wide other.time.offset q.offset) second.0 in
    let name : who.name ≡ other.name = third.0 in
    let email : who.email ≡ other.email = third.1 in
    λ i. record { name = name i; email = email i; time = record { seconds = seconds i; offset = offset i } }

pub same_kind : (a b : Kind) → kind_name a ≡ kind_name b → a ≡ b
same_kind a b e = let h : Some a ≡ Some b = sym (named_kind a) ∙ ap kind_named e ∙ named_kind b in cc
  where
    named_kind : (k : Kind) → kind_named (kind_name k) ≡ Some k
    named_kind kinds.Blob = refl
    named_kind kinds.Tree = refl
    named_kind kinds.Commit = refl
    named_kind kinds.Tag = refl

no_digit : (hash : HashKind) (id : ObjectId) (c : ℕ) (rest : List ℕ) → IsId hash id → (IsLowerHexDigit c → ⊥) → hex_of id ≡ c ∷ rest → ⊥
no_digit hash id c rest h none e = none (hex_first hash id c rest h e)

at_digit : IsLowerHexDigit 64 → ⊥
at_digit (inl p) = omega (arith, p.1)
at_digit (inr p) = omega (arith, p.0)

caret_digit : IsLowerHexDigit 94 → ⊥
caret_digit (inl p) = omega (arith, p.1)
caret_digit (inr p) = omega (arith, p.0)

pub same_target : (hash : HashKind) (a b : Target) → IsTarget hash a → IsTarget hash b → target_text a ≡ target_text b → a ≡ b
same_target hash (Object a) (Object b) p q e = ap Object (same_id hash a b p q e)
same_target hash (Object a) (Symbolic b) p q e = absurd (no_digit hash a 64 b p at_digit e)
same_target hash (Symbolic a) (Object b) p q e = absurd (no_digit hash b 64 a q at_digit (sym e))
same_target hash (Symbolic a) (Symbolic b) p q e = let h : a ≡ b = cc in ap Symbolic h

pub same_expect : (hash : HashKind) (x y : Expect) → IsExpect hash x → IsExpect hash y → expect_text x ≡ expect_text y → x ≡ y
same_expect hash Any Any p q e = refl
same_expect hash Any Exists p q e = let h : 97 ≡ 101 = ap (λ (l : List ℕ). get_or l 0 0) e in absurd (omega (arith, h))
same_expect hash Any Absent p q e = let h : 110 ≡ 98 = ap (λ (l : List ℕ). get_or l 1 0) e in absurd (omega (arith, h))
same_expect hash Any (Match b) p q e = let h : 97 ≡ 61 = ap (λ (l : List ℕ). get_or l 0 0) e in absurd (omega (arith, h))
same_expect hash Any (MatchOrAbsent b) p q e = let h : 97 ≡ 63 = ap (λ (l : List ℕ). get_or l 0 0) e in absurd (omega (arith, h))
same_expect hash Exists Any p q e = let h : 101 ≡ 97 = ap (λ (l : List ℕ). get_or l 0 0) e in absurd (omega (arith, h))
same_expect hash Exists Exists p q e = refl
same_expect hash Exists Absent p q e = let h : 101 ≡ 97 = ap (λ (l : List ℕ). get_or l 0 0) e in absurd (omega (arith, h))
same_expect hash Exists (Match b) p q e = let h : 101 ≡ 61 = ap (λ (l : List ℕ). get_or l 0 0) e in absurd (omega (arith, h))
same_expect hash Exists (MatchOrAbsent b) p q e = let h : 101 ≡ 63 = ap (λ (l : List ℕ). get_or l 0 0) e in absurd (omega (arith, h))
same_expect hash Absent Any p q e = let h : 98 ≡ 110 = ap (λ (l : List ℕ). get_or l 1 0) e in absurd (omega (arith, h))
same_expect hash Absent Exists p q e = let h : 97 ≡ 101 = ap (λ (l : List ℕ). get_or l 0 0) e in absurd (omega (arith, h))
same_expect hash Absent Absent p q e = refl
same_expect hash Absent (Match b) p q e = let h : 97 ≡ 61 = ap (λ (l : List ℕ). get_or l 0 0) e in absurd (omega (arith, h))
same_expect hash Absent (MatchOrAbsent b) p q e = let h : 97 ≡ 63 = ap (λ (l : List ℕ). get_or l 0 0) e in absurd (omega (arith, h))
same_expect hash (Match a) Any p q e = let h : 61 ≡ 97 = ap (λ (l : List ℕ). get_or l 0 0) e in absurd (omega (arith, h))
same_expect hash (Match a) Exists p q e = let h : 61 ≡ 101 = ap (λ (l : List ℕ). get_or l 0 0) e in absurd (omega (arith, h))
same_expect hash (Match a) Absent p q e = let h : 61 ≡ 97 = ap (λ (l : List ℕ). get_or l 0 0) e in absurd (omega (arith, h))
same_expect hash (Match a) (Match b) p q e = let h : target_text a ≡ target_text b = cc in ap Match (same_target hash a b p q h)
same_expect hash (Match a) (MatchOrAbsent b) p q e = let h : 61 ≡ 63 = ap (λ (l : List ℕ). get_or l 0 0) e in absurd (omega (arith, h))
same_expect hash (MatchOrAbsent a) Any p q e = let h : 63 ≡ 97 = ap (λ (l : List ℕ). get_or l 0 0) e in absurd (omega (arith, h))
same_expect hash (MatchOrAbsent a) Exists p q e = let h : 63 ≡ 101 = ap (λ (l : List ℕ). get_or l 0 0) e in absurd (omega (arith, h))
same_expect hash (MatchOrAbsent a) Absent p q e = let h : 63 ≡ 97 = ap (λ (l : List ℕ). get_or l 0 0) e in absurd (omega (arith, h))
same_expect hash (MatchOrAbsent a) (Match b) p q e = let h : 63 ≡ 61 = ap (λ (l : List ℕ). get_or l 0 0) e in absurd (omega (arith, h))
same_expect hash (MatchOrAbsent a) (MatchOrAbsent b) p q e = let h : target_text a ≡ target_text b = cc in ap MatchOrAbsent (same_target hash a b p q h)

pub same_order : (x y : Order) → IsOrder x → IsOrder y → order_text x ≡ order_text y → x ≡ y
same_order Breadth Breadth p q e = refl
same_order Breadth Newest p q e = let h : 98 ≡ 110 = ap (λ (l : List ℕ). get_or l 0 0) e in absurd (omega (arith, h))
same_order Breadth Oldest p q e = let h : 98 ≡ 111 = ap (λ (l : List ℕ). get_or l 0 0) e in absurd (omega (arith, h))
same_order Breadth (NewestFrom b) p q e = let h : 98 ≡ 110 = ap (λ (l : List ℕ). get_or l 0 0) e in absurd (omega (arith, h))
same_order Breadth (OldestFrom b) p q e = let h : 98 ≡ 111 = ap (λ (l : List ℕ). get_or l 0 0) e in absurd (omega (arith, h))
same_order Newest Breadth p q e = let h : 110 ≡ 98 = ap (λ (l : List ℕ). get_or l 0 0) e in absurd (omega (arith, h))
same_order Newest Newest p q e = refl
same_order Newest Oldest p q e = let h : 110 ≡ 111 = ap (λ (l : List ℕ). get_or l 0 0) e in absurd (omega (arith, h))
same_order Newest (NewestFrom b) p q e = let h : 0 ≡ 58 = ap (λ (l : List ℕ). get_or l 6 0) e in absurd (omega (arith, h))
same_order Newest (OldestFrom b) p q e = let h : 110 ≡ 111 = ap (λ (l : List ℕ). get_or l 0 0) e in absurd (omega (arith, h))
same_order Oldest Breadth p q e = let h : 111 ≡ 98 = ap (λ (l : List ℕ). get_or l 0 0) e in absurd (omega (arith, h))
same_order Oldest Newest p q e = let h : 111 ≡ 110 = ap (λ (l : List ℕ). get_or l 0 0) e in absurd (omega (arith, h))
same_order Oldest Oldest p q e = refl
same_order Oldest (NewestFrom b) p q e = let h : 111 ≡ 110 = ap (λ (l : List ℕ). get_or l 0 0) e in absurd (omega (arith, h))
same_order Oldest (OldestFrom b) p q e = let h : 0 ≡ 58 = ap (λ (l : List ℕ). get_or l 6 0) e in absurd (omega (arith, h))
same_order (NewestFrom a) Breadth p q e = let h : 110 ≡ 98 = ap (λ (l : List ℕ). get_or l 0 0) e in absurd (omega (arith, h))
same_order (NewestFrom a) Newest p q e = let h : 58 ≡ 0 = ap (λ (l : List ℕ). get_or l 6 0) e in absurd (omega (arith, h))
same_order (NewestFrom a) Oldest p q e = let h : 110 ≡ 111 = ap (λ (l : List ℕ). get_or l 0 0) e in absurd (omega (arith, h))
same_order (NewestFrom a) (NewestFrom b) p q e = ap NewestFrom (same_number a b p q (append_cancel_left (codes "newest:") (signed_decimal a) (signed_decimal b) e))
same_order (NewestFrom a) (OldestFrom b) p q e = let h : 110 ≡ 111 = ap (λ (l : List ℕ). get_or l 0 0) e in absurd (omega (arith, h))
same_order (OldestFrom a) Breadth p q e = let h : 111 ≡ 98 = ap (λ (l : List ℕ). get_or l 0 0) e in absurd (omega (arith, h))
same_order (OldestFrom a) Newest p q e = let h : 111 ≡ 110 = ap (λ (l : List ℕ). get_or l 0 0) e in absurd (omega (arith, h))
same_order (OldestFrom a) Oldest p q e = let h : 58 ≡ 0 = ap (λ (l : List ℕ). get_or l 6 0) e in absurd (omega (arith, h))
same_order (OldestFrom a) (NewestFrom b) p q e = let h : 111 ≡ 110 = ap (λ (l : List ℕ). get_or l 0 0) e in absurd (omega (arith, h))
same_order (OldestFrom a) (OldestFrom b) p q e = ap OldestFrom (same_number a b p q (append_cancel_left (codes "oldest:") (signed_decimal a) (signed_decimal b) e))

pub same_set : (x y : NameSet) → set_text x ≡ set_text y → x ≡ y
same_set Tags Tags e = refl
same_set Tags AllTags e = let h : 116 ≡ 97 = ap (λ (l : List ℕ). get_or l 0 0) e in absurd (omega (arith, h))
same_set Tags AllRefs e = let h : 116 ≡ 97 = ap (λ (l : List ℕ). get_or l 0 0) e in absurd (omega (arith, h))
same_set AllTags Tags e = let h : 97 ≡ 116 = ap (λ (l : List ℕ). get_or l 0 0) e in absurd (omega (arith, h))
same_set AllTags AllTags e = refl
same_set AllTags AllRefs e = let h : 116 ≡ 114 = ap (λ (l : List ℕ). get_or l 4 0) e in absurd (omega (arith, h))
same_set AllRefs Tags e = let h : 97 ≡ 116 = ap (λ (l : List ℕ). get_or l 0 0) e in absurd (omega (arith, h))
same_set AllRefs AllTags e = let h : 114 ≡ 116 = ap (λ (l : List ℕ). get_or l 4 0) e in absurd (omega (arith, h))
same_set AllRefs AllRefs e = refl

hidden_id : (hash : HashKind) (x y : Bool) (a b : ObjectId) → IsId hash a → IsId hash b → hidden_text x ++ hex_of a ≡ hidden_text y ++ hex_of b → (x ≡ y) × (a ≡ b)
hidden_id hash true true a b p q e = let h : hex_of a ≡ hex_of b = cc in (refl, same_id hash a b p q h)
hidden_id hash true false a b p q e = absurd (no_digit hash b 94 (hex_of a) q caret_digit (sym e))
hidden_id hash false true a b p q e = absurd (no_digit hash a 94 (hex_of b) p caret_digit e)
hidden_id hash false false a b p q e = (refl, same_id hash a b p q e)

pub same_walk_id : (hash : HashKind) (x y : WalkId) → IsId hash x.id → IsId hash y.id → walk_id_text x ≡ walk_id_text y → x ≡ y
same_walk_id hash x y p q e =
    let r = hidden_id hash x.hidden y.hidden x.id y.id p q e in
    let hidden : x.hidden ≡ y.hidden = r.0 in
    let id : x.id ≡ y.id = r.1 in
    λ i. record { id = id i; hidden = hidden i }

-- Lists of fields.
pub same_spaced : {X : Type 0} (text : X → List ℕ) (Fits : X → Type 0) → ((x : X) → Fits x → Without 32 (text x)) → ((x y : X) → Fits x → Fits y → text x ≡ text y → x ≡ y) → (xs ys : List X) → AllByRecursion Fits xs → AllByRecursion Fits ys → spaced (map text xs) ≡ spaced (map text ys) → xs ≡ ys
same_spaced text Fits whole same [] [] p q e = refl
same_spaced text Fits whole same [] (y ∷ ys) p q e = absurd (cc)
same_spaced text Fits whole same (x ∷ xs) [] p q e = absurd (cc)
same_spaced text Fits whole same (x ∷ xs) (y ∷ ys) p q e =
    let f : text x ++ spaced (map text xs) ≡ text y ++ spaced (map text ys) = cc in
    let r = same_cut (text x) (text y) (spaced (map text xs)) (spaced (map text ys)) (whole x p.0) (whole y q.0) (spaced_tail text xs) (spaced_tail text ys) f in
    let first : x ≡ y = same x y p.0 q.0 r.0 in
    let rest : xs ≡ ys = same_spaced text Fits whole same xs ys p.1 q.1 r.1 in
    cc

-- Persons and messages.
pub same_described : (word : List ℕ) (p q : Option Signature) (m n : List ℕ) → ((k : ℕ) (who : Signature) → word ++ who_text who ≡ message_line k → ⊥) → IsPerson p → IsPerson q → person_items word p ++ message_items m ≡ person_items word q ++ message_items n → (p ≡ q) × (m ≡ n)
same_described word None None m n apart p q e = let h : m ≡ n = cc in (refl, h)
same_described word None (Some who) m n apart p q e = let h : word ++ who_text who ≡ message_line (length m) = cc in absurd (apart (length m) who h)
same_described word (Some who) None m n apart p q e = let h : word ++ who_text who ≡ message_line (length n) = cc in absurd (apart (length n) who h)
same_described word (Some who) (Some other) m n apart p q e =
    let line : word ++ who_text who ≡ word ++ who_text other = cc in
    let rest : m ≡ n = cc in
    (ap Some (same_who who other p q (append_cancel_left word (who_text who) (who_text other) line)), rest)

-- Edits.
same_path : (word path path' bytes bytes' : List ℕ) → put_line word (length bytes) path ≡ put_line word (length bytes') path' → bytes ≡ bytes' → path ≡ path'
same_path word path path' bytes bytes' e block =
    let lines : put_line word (length bytes) path ≡ put_line word (length bytes) path' = e ∙ ap (λ (b : List ℕ). put_line word (length b) path') (sym block) in
    let rest : word ++ 32 ∷ (decimal (length bytes) ++ 32 ∷ path) ≡ word ++ 32 ∷ (decimal (length bytes) ++ 32 ∷ path') = append_cancel_left (codes "put ") (word ++ 32 ∷ (decimal (length bytes) ++ 32 ∷ path)) (word ++ 32 ∷ (decimal (length bytes) ++ 32 ∷ path')) lines in
    let size : 32 ∷ (decimal (length bytes) ++ 32 ∷ path) ≡ 32 ∷ (decimal (length bytes) ++ 32 ∷ path') = append_cancel_left word (32 ∷ (decimal (length bytes) ++ 32 ∷ path)) (32 ∷ (decimal (length bytes) ++ 32 ∷ path')) rest in
    let behind : decimal (length bytes) ++ 32 ∷ path ≡ decimal (length bytes) ++ 32 ∷ path' = cc in
    let last : 32 ∷ path ≡ 32 ∷ path' = append_cancel_left (decimal (length bytes)) (32 ∷ path) (32 ∷ path') behind in
    cc

abbrev first_line : List Item → List ℕ
first_line [] = []
first_line ((Line line) ∷ items) = line
first_line ((Block block) ∷ items) = []

pub same_edit : (hash : HashKind) (x y : PathEdit) (xs ys : List Item) → IsEdit hash x → IsEdit hash y → edit_items x ++ xs ≡ edit_items y ++ ys → (x ≡ y) × (xs ≡ ys)
same_edit hash (File p b false) (File p' b' false) xs ys f g e =
    let line : put_line (codes "file") (length b) p ≡ put_line (codes "file") (length b') p' = cc in
    let block : b ≡ b' = cc in
    let rest : xs ≡ ys = cc in
    let path : p ≡ p' = same_path (codes "file") p p' b b' line block in
    (ap (λ (z : List ℕ). File z b false) path ∙ ap (λ (z : List ℕ). File p' z false) block, rest)
same_edit hash (File p b false) (File p' b' true) xs ys f g e = let h : 102 ≡ 101 = ap (λ (l : List Item). get_or (first_line l) 4 0) e in absurd (omega (arith, h))
same_edit hash (File p b false) (Link p' b') xs ys f g e = let h : 102 ≡ 108 = ap (λ (l : List Item). get_or (first_line l) 4 0) e in absurd (omega (arith, h))
same_edit hash (File p b false) (Module p' i') xs ys f g e = let h : 112 ≡ 109 = ap (λ (l : List Item). get_or (first_line l) 0 0) e in absurd (omega (arith, h))
same_edit hash (File p b false) (Remove p') xs ys f g e = let h : 112 ≡ 100 = ap (λ (l : List Item). get_or (first_line l) 0 0) e in absurd (omega (arith, h))
same_edit hash (File p b true) (File p' b' false) xs ys f g e = let h : 101 ≡ 102 = ap (λ (l : List Item). get_or (first_line l) 4 0) e in absurd (omega (arith, h))
same_edit hash (File p b true) (File p' b' true) xs ys f g e =
    let line : put_line (codes "exec") (length b) p ≡ put_line (codes "exec") (length b') p' = cc in
    let block : b ≡ b' = cc in
    let rest : xs ≡ ys = cc in
    let path : p ≡ p' = same_path (codes "exec") p p' b b' line block in
    (ap (λ (z : List ℕ). File z b true) path ∙ ap (λ (z : List ℕ). File p' z true) block, rest)
same_edit hash (File p b true) (Link p' b') xs ys f g e = let h : 101 ≡ 108 = ap (λ (l : List Item). get_or (first_line l) 4 0) e in absurd (omega (arith, h))
same_edit hash (File p b true) (Module p' i') xs ys f g e = let h : 112 ≡ 109 = ap (λ (l : List Item). get_or (first_line l) 0 0) e in absurd (omega (arith, h))
same_edit hash (File p b true) (Remove p') xs ys f g e = let h : 112 ≡ 100 = ap (λ (l : List Item). get_or (first_line l) 0 0) e in absurd (omega (arith, h))
same_edit hash (Link p b) (File p' b' false) xs ys f g e = let h : 108 ≡ 102 = ap (λ (l : List Item). get_or (first_line l) 4 0) e in absurd (omega (arith, h))
same_edit hash (Link p b) (File p' b' true) xs ys f g e = let h : 108 ≡ 101 = ap (λ (l : List Item). get_or (first_line l) 4 0) e in absurd (omega (arith, h))
same_edit hash (Link p b) (Link p' b') xs ys f g e =
    let line : put_line (codes "link") (length b) p ≡ put_line (codes "link") (length b') p' = cc in
    let block : b ≡ b' = cc in
    let rest : xs ≡ ys = cc in
    let path : p ≡ p' = same_path (codes "link") p p' b b' line block in
    (ap (λ (z : List ℕ). Link z b) path ∙ ap (λ (z : List ℕ). Link p' z) block, rest)
same_edit hash (Link p b) (Module p' i') xs ys f g e = let h : 112 ≡ 109 = ap (λ (l : List Item). get_or (first_line l) 0 0) e in absurd (omega (arith, h))
same_edit hash (Link p b) (Remove p') xs ys f g e = let h : 112 ≡ 100 = ap (λ (l : List Item). get_or (first_line l) 0 0) e in absurd (omega (arith, h))
same_edit hash (Module p i) (File p' b' false) xs ys f g e = let h : 109 ≡ 112 = ap (λ (l : List Item). get_or (first_line l) 0 0) e in absurd (omega (arith, h))
same_edit hash (Module p i) (File p' b' true) xs ys f g e = let h : 109 ≡ 112 = ap (λ (l : List Item). get_or (first_line l) 0 0) e in absurd (omega (arith, h))
same_edit hash (Module p i) (Link p' b') xs ys f g e = let h : 109 ≡ 112 = ap (λ (l : List Item). get_or (first_line l) 0 0) e in absurd (omega (arith, h))
same_edit hash (Module p i) (Module p' i') xs ys f g e =
    let line : module_line i p ≡ module_line i' p' = cc in
    let rest : xs ≡ ys = cc in
    let parts = same_split 32 (hex_of i) (hex_of i') p p' (hex_space hash i f.0) (hex_space hash i' g.0) (append_cancel_left (codes "module ") (hex_of i ++ 32 ∷ p) (hex_of i' ++ 32 ∷ p') line) in
    let id : i ≡ i' = same_id hash i i' f.0 g.0 parts.0 in
    (ap (λ (z : List ℕ). Module z i) parts.1 ∙ ap (λ (z : ObjectId). Module p' z) id, rest)
same_edit hash (Module p i) (Remove p') xs ys f g e = let h : 109 ≡ 100 = ap (λ (l : List Item). get_or (first_line l) 0 0) e in absurd (omega (arith, h))
same_edit hash (Remove p) (File p' b' false) xs ys f g e = let h : 100 ≡ 112 = ap (λ (l : List Item). get_or (first_line l) 0 0) e in absurd (omega (arith, h))
same_edit hash (Remove p) (File p' b' true) xs ys f g e = let h : 100 ≡ 112 = ap (λ (l : List Item). get_or (first_line l) 0 0) e in absurd (omega (arith, h))
same_edit hash (Remove p) (Link p' b') xs ys f g e = let h : 100 ≡ 112 = ap (λ (l : List Item). get_or (first_line l) 0 0) e in absurd (omega (arith, h))
same_edit hash (Remove p) (Module p' i') xs ys f g e = let h : 100 ≡ 109 = ap (λ (l : List Item). get_or (first_line l) 0 0) e in absurd (omega (arith, h))
same_edit hash (Remove p) (Remove p') xs ys f g e =
    let line : drop_line p ≡ drop_line p' = cc in
    let rest : xs ≡ ys = cc in
    (ap Remove (append_cancel_left (codes "drop ") p p' line), rest)

first_edit : (x : PathEdit) (xs : List Item) → edit_items x ++ xs ≡ Line end_line ∷ [] → ⊥
first_edit (File p b false) xs e = let h : 112 ≡ 101 = ap (λ (l : List Item). get_or (first_line l) 0 0) e in omega (arith, h)
first_edit (File p b true) xs e = let h : 112 ≡ 101 = ap (λ (l : List Item). get_or (first_line l) 0 0) e in omega (arith, h)
first_edit (Link p b) xs e = let h : 112 ≡ 101 = ap (λ (l : List Item). get_or (first_line l) 0 0) e in omega (arith, h)
first_edit (Module p i) xs e = let h : 109 ≡ 101 = ap (λ (l : List Item). get_or (first_line l) 0 0) e in omega (arith, h)
first_edit (Remove p) xs e = let h : 100 ≡ 101 = ap (λ (l : List Item). get_or (first_line l) 0 0) e in omega (arith, h)

pub same_edits : (hash : HashKind) (xs ys : List PathEdit) → AllByRecursion (IsEdit hash) xs → AllByRecursion (IsEdit hash) ys → edits_items xs ≡ edits_items ys → xs ≡ ys
same_edits hash [] [] p q e = refl
same_edits hash [] (y ∷ ys) p q e = absurd (first_edit y (edits_items ys) (sym (append_assoc (edit_items y) (flat_map edit_items ys) (Line end_line ∷ [])) ∙ sym e))
same_edits hash (x ∷ xs) [] p q e = absurd (first_edit x (edits_items xs) (sym (append_assoc (edit_items x) (flat_map edit_items xs) (Line end_line ∷ [])) ∙ e))
same_edits hash (x ∷ xs) (y ∷ ys) p q e =
    let r = same_edit hash x y (edits_items xs) (edits_items ys) p.0 q.0 (sym (append_assoc (edit_items x) (flat_map edit_items xs) (Line end_line ∷ [])) ∙ e ∙ append_assoc (edit_items y) (flat_map edit_items ys) (Line end_line ∷ [])) in
    let first : x ≡ y = r.0 in
    let rest : xs ≡ ys = same_edits hash xs ys p.1 q.1 r.1 in
    cc

pub record SameContent (ids ids' : List ObjectId) (m m' : List ℕ) (es es' : List PathEdit) : Type 0 where
  pub parents : ids ≡ ids'
  pub message : m ≡ m'
  pub edits : es ≡ es'

pub same_content : (hash : HashKind) (ids ids' : List ObjectId) (m m' : List ℕ) (es es' : List PathEdit) → AllByRecursion (IsId hash) ids → AllByRecursion (IsId hash) ids' → AllByRecursion (IsEdit hash) es → AllByRecursion (IsEdit hash) es'
    → map parent_item ids ++ content_items m es ≡ map parent_item ids' ++ content_items m' es' → SameContent ids ids' m m' es es'
same_content hash [] [] m m' es es' p q f g e = let message : m ≡ m' = cc in let rest : edits_items es ≡ edits_items es' = cc in record { parents = refl; message = message; edits = same_edits hash es es' f g rest }
same_content hash [] (y ∷ ys) m m' es es' p q f g e = let h : 109 ≡ 112 = ap (λ (l : List Item). get_or (first_line l) 0 0) e in absurd (omega (arith, h))
same_content hash (x ∷ xs) [] m m' es es' p q f g e = let h : 112 ≡ 109 = ap (λ (l : List Item). get_or (first_line l) 0 0) e in absurd (omega (arith, h))
same_content hash (x ∷ xs) (y ∷ ys) m m' es es' p q f g e =
    let line : codes "parent " ++ hex_of x ≡ codes "parent " ++ hex_of y = cc in
    let rest : map parent_item xs ++ content_items m es ≡ map parent_item ys ++ content_items m' es' = cc in
    let id : x ≡ y = same_id hash x y p.0 q.0 (append_cancel_left (codes "parent ") (hex_of x) (hex_of y) line) in
    let r = same_content hash xs ys m m' es es' p.1 q.1 f g rest in
    record { parents = ap (λ (z : ObjectId). z ∷ xs) id ∙ ap (λ (l : List ObjectId). y ∷ l) r.parents; message = r.message; edits = r.edits }
