-- What is read of a commit is its node in the history.
use Rattle.std.proofs.Common.{◌≡◌, ℕ, ◌<◌, ℤ, pos, neg_ℤ, List, [], ◌∷◌, map, sym, refl, ap, ◌∙◌, subst, arith, inl, inr, Some, None, Option, IfSome, MatchOption, Ok, Err, Result, MatchResult, if◌then◌else◌}
use Rattle.std.specs.Option.{option_or}
use Rattle.std.proofs.lemmas.Option.{some_pair_parts}
use Rattle.std.specs.FinMap.{get}
use Rattle.std.specs.Str.Parse.{IsNumeral, digits_value}
use Rattle.gx_hash.specs.HashKind.{kind_of}
use Rattle.gx_hash.specs.ObjectId.{id_from_hex, empty_tree_id}
use Rattle.gx_hash.specs.declared.kind.HashKind.{HashKind}
use Rattle.gx_hash.specs.declared.oid.ObjectId.{ObjectId}
use Rattle.gx_hash.specs.declared.oid.HexError.{HexError}
use Rattle.gx_object.specs.declared.kind.Kind.{Kind}
use Rattle.gx_object.specs.declared.kind.Kind.TheVariants as kind
use Rattle.gx_object.specs.declared.commit.decode.CommitRef.{CommitRef}
use Rattle.gx_object.specs.declared.decode.DecodeError.{DecodeError}
use Rattle.gx_object.specs.declared.decode.DecodeError.TheVariants as decode
use Rattle.gx_object.specs.CommitSpelling.{CommitText, commit_text, SpellsCommit}
use Rattle.gx_object.specs.TimeSpelling.{SpellsPlain, SpellsNegated, SpellsSeconds, BeginsWithSeconds}
use Rattle.gx_hash.specs.ObjectIds.{id_eq}
use Rattle.gx_store.specs.Content.{Content, lookup}
use Rattle.gx_store.specs.State.{StoreState}
use Rattle.gx_walk.specs.Causes.{IsUndecodable}
use Rattle.gx_walk.specs.History.{History, Node, IsNode, IsHistoryOf, Told}
use Rattle.gx_walk.proofs.TellLemmas.{told_from, content_then}

-- no numeral begins with a minus
no_minus : (digits : List ℕ) → IsNumeral 10 (45 ∷ digits) → ⊥
no_minus digits h = let big : 36 < 10 = h.1.0 in absurd (omega arith)

plain_once : (text : List ℕ) (t u : ℤ) → SpellsPlain text t → SpellsPlain text u → t ≡ u
plain_once text t u (n, a, t_is) (m, b, u_is) = t_is ∙ ap pos (sym a.1 ∙ b.1) ∙ sym u_is

negated_once : (text : List ℕ) (t u : ℤ) → SpellsNegated text t → SpellsNegated text u → t ≡ u
negated_once text t u (ds, n, is, a, t_is) (es, m, also, b, u_is) =
    let e : 45 ∷ ds ≡ 45 ∷ es = sym is ∙ also in
    let same : ds ≡ es = cc in
    t_is ∙ ap (λ k. neg_ℤ (pos k)) (sym a.1 ∙ ap (digits_value 10) same ∙ b.1) ∙ sym u_is

seconds_once : (text : List ℕ) (t u : ℤ) → SpellsSeconds text t → SpellsSeconds text u → t ≡ u
seconds_once text t u (fits, inl a) (also, inl b) = plain_once text t u a b
seconds_once text t u (fits, inr a) (also, inr b) = negated_once text t u a b
seconds_once text t u (fits, inl (n, a, t_is)) (also, inr (es, m, is, b, u_is)) = absurd (no_minus es (subst (IsNumeral 10) is a.0))
seconds_once text t u (fits, inr (ds, n, is, a, t_is)) (also, inl (m, b, u_is)) = absurd (no_minus ds (subst (IsNumeral 10) is b.0))

time_once : (text : List ℕ) (t u : ℤ) → BeginsWithSeconds text t → BeginsWithSeconds text u → t ≡ u
time_once text t u (inl a) (inl b) = seconds_once _ t u a b
time_once text t u (inl a) (inr b) = absurd (b.1 t a)
time_once text t u (inr a) (inl b) = absurd (a.1 u b)
time_once text t u (inr a) (inr b) = a.0 ∙ sym b.0

abbrev ok : ObjectId → Result ObjectId HexError
ok id = Ok id

same_ids : (xs ys : List ObjectId) → map ok xs ≡ map ok ys → xs ≡ ys
same_ids [] [] h = refl
same_ids [] (y ∷ ys) h = cc
same_ids (x ∷ xs) [] h = cc
same_ids (x ∷ xs) (y ∷ ys) h =
    let first : ok x ≡ ok y = cc in
    let rest : map ok xs ≡ map ok ys = cc in
    let e : x ≡ y = cc in
    let es = same_ids xs ys rest in λ i. e i ∷ es i

same_bytes : (a b : List ℕ) (o : Option (Kind × List ℕ)) → o ≡ Some (kind.Commit, a) → o ≡ Some (kind.Commit, b) → a ≡ b
same_bytes a b o h k =
    let both : Some (kind.Commit, a) ≡ Some (kind.Commit, b) = sym h ∙ k in
    (some_pair_parts kind.Commit kind.Commit a b both).1

same_node : (a b : Node) → a.parents ≡ b.parents → a.time ≡ b.time → a ≡ b
same_node a b p t = λ i. record { parents = p i; time = t i }

-- a commit that is stored, and whose bytes spell one text alone, is what the history has at its id
pub told_node : (hash : HashKind) (content : Content) (history : History) (id : ObjectId) (bytes : List ℕ) (text : CommitText) (node : Node)
    → IsHistoryOf hash content history → get content id ≡ Some (kind.Commit, bytes) → SpellsCommit hash bytes text → ((c : CommitText) → SpellsCommit hash bytes c → c ≡ text)
    → map id_from_hex text.parents ≡ map Ok node.parents → BeginsWithSeconds text.committer.time node.time → history id ≡ Some node
told_node hash content history id bytes text node is stored spelled once parents time = go (history id) (is id) where
  here : IsNode hash content id node
  here = record { bytes = bytes; text = text; stored = stored; spelled = spelled; parents = parents; time = time }

  go : (o : Option Node) → MatchOption o ((n : Node) → ¬ IsNode hash content id n) (IsNode hash content id) → o ≡ Some node
  go None none = absurd (none node here)
  go (Some other) it =
      let same : it.bytes ≡ bytes = same_bytes it.bytes bytes (get content id) it.stored stored in
      let is_text : it.text ≡ text = once it.text (subst (λ w. SpellsCommit hash w it.text) same it.spelled) in
      let ids : other.parents ≡ node.parents = same_ids other.parents node.parents (sym it.parents ∙ ap (λ (c : CommitText). map id_from_hex c.parents) is_text ∙ parents) in
      let made : other.time ≡ node.time = time_once text.committer.time other.time node.time (subst (λ (c : CommitText). BeginsWithSeconds c.committer.time other.time) is_text it.time) time in
      ap (λ w. Some w) (same_node other node ids made)

-- ---- what a call that reads a commit makes of its bytes

abbrev Spelled : HashKind → List ℕ → Result CommitRef DecodeError → Type 0
Spelled hash bytes result = (c : CommitText) → SpellsCommit hash bytes c → MatchResult result (λ found. commit_text found ≡ c) (λ e. e ≡ decode.NoMemory)

-- bytes in which an error was found spell no commit
pub never_spelled : (result : Result CommitRef DecodeError) (hash h : HashKind) (bytes slice : List ℕ) (e : DecodeError) (at : ℕ) → h ≡ hash → slice ≡ bytes → result ≡ Err e → e ≡ decode.Decode at → Spelled h slice result → (c : CommitText) → ¬ SpellsCommit hash bytes c
never_spelled result hash h bytes slice e at same is r d only c spelled =
    let here : SpellsCommit h slice c = subst (λ b. SpellsCommit h b c) (sym is) (subst (λ k. SpellsCommit k bytes c) (sym same) spelled) in
    let none : e ≡ decode.NoMemory = subst (λ x. MatchResult x (λ found. commit_text found ≡ c) (λ e. e ≡ decode.NoMemory)) r (only c here) in
    cc

-- what is read of a commit is what the history has
pub read_is : (state : StoreState) (id : ObjectId) (h : HashKind) (bytes slice : List ℕ) (result : Result CommitRef DecodeError) (found : CommitRef) (node : Node)
    → IfSome state.content (λ content. get content id ≡ Some (kind.Commit, bytes)) → h ≡ state.hash → slice ≡ bytes → result ≡ Ok found
    → SpellsCommit h slice (commit_text found) → Spelled h slice result
    → map id_from_hex (commit_text found).parents ≡ map Ok node.parents → BeginsWithSeconds (commit_text found).committer.time node.time
    → Told state (λ history. history id ≡ Some node)
read_is state id h bytes slice result found node stored same is ok spelled only parents time = told_from state (λ content. get content id ≡ Some (kind.Commit, bytes)) (λ history. history id ≡ Some node)
    (λ content history of at. told_node state.hash content history id bytes (commit_text found) node of at
    (subst (λ b. SpellsCommit state.hash b (commit_text found)) is (subst (λ k. SpellsCommit k slice (commit_text found)) same spelled))
    (λ c s.
    let here : SpellsCommit h slice c = subst (λ b. SpellsCommit h b c) (sym is) (subst (λ k. SpellsCommit k bytes c) (sym same) s) in
    sym (subst (λ x. MatchResult x (λ f. commit_text f ≡ c) (λ e. e ≡ decode.NoMemory)) ok (only c here)))
    parents time)
    stored

-- the bytes of a commit are found at its id
pub found_at : (content : Content) (id : ObjectId) (object : Kind × List ℕ) → get content id ≡ Some object → lookup content id ≡ Some object
found_at content id object at = ap (λ o. option_or o (if id_eq id (empty_tree_id (kind_of id)) then Some (kind.Tree, []) else None)) at

pub undecodable : (state : StoreState) (id : ObjectId) (bytes : List ℕ) → IfSome state.content (λ content. get content id ≡ Some (kind.Commit, bytes)) → ((c : CommitText) → ¬ SpellsCommit state.hash bytes c) → IfSome state.content (λ content. IsUndecodable state.hash content id)
undecodable state id bytes stored none = content_then state (λ content. get content id ≡ Some (kind.Commit, bytes)) (λ content. IsUndecodable state.hash content id) (λ content at. (bytes, found_at content id (kind.Commit, bytes) at, none)) stored
