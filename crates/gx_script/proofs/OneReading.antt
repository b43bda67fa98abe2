-- The language is read in one way only.
use Rattle.std.proofs.Common.{◌≡◌, ◌∙◌, sym, ap, refl, subst, ℕ, List, [], ◌∷◌, ◌++◌, length, arith, append_assoc, length-append, ◌⊎◌, inl, inr}
use Rattle.std.specs.List.{flat_map, AllByRecursion}
use Rattle.std.proofs.lemmas.List.{append-nil}
use Rattle.gx_hash.specs.declared.kind.HashKind.{HashKind}
use Rattle.gx_script.specs.declared.request.Request.{Request}
use Rattle.gx_script.specs.Grammar.{AtFirst, AtOver, Leads}
use Rattle.gx_script.specs.Items.{Item, Line, Block, item_text, items_text, ended, NoNewline}
use Rattle.gx_script.specs.Laws.{HasNoRequest}
use Rattle.gx_script.specs.Script.{IsPartialLine, IsPart, IsShort, IsRequest, Begins, IsMalformed, IsBad, StopsAt}
use Rattle.gx_script.specs.Spelling.{items_of, spelling}
use Rattle.gx_script.proofs.FormLemmas.{request_leads}
use Rattle.gx_script.proofs.GrammarLemmas.{SameKind, AreAlike, open_ended, same_item, leads_alike}
use Rattle.gx_script.proofs.LineLemmas.{has_byte, without_front}
use Rattle.gx_script.proofs.OneRequest.{same_request}

alike : (hash : HashKind) (r s : Request) → IsRequest hash r → IsRequest hash s → AreAlike (items_of r) (items_of s)
alike hash r s p q = leads_alike hash AtFirst (items_of r) (items_of s) (request_leads hash r p) (request_leads hash s q)

-- At the front of the same bytes stands the same item, and after it the same rest.
first_item : (x y : Item) (xs ys : List Item) (a b : List ℕ) → SameKind x y → items_text (x ∷ xs) ++ a ≡ items_text (y ∷ ys) ++ b → (x ≡ y) × (items_text xs ++ a ≡ items_text ys ++ b)
first_item x y xs ys a b k e = same_item x y (items_text xs ++ a) (items_text ys ++ b) k (sym (append_assoc (item_text x) (items_text xs) a) ∙ e ∙ append_assoc (item_text y) (items_text ys) b)

same_items : (xs ys : List Item) (a b : List ℕ) → AreAlike xs ys → items_text xs ++ a ≡ items_text ys ++ b → (xs ≡ ys) × (a ≡ b)
same_items [] [] a b like e = (refl, e)
same_items [] (y ∷ ys) a b like e = absurd like
same_items (x ∷ xs) [] a b like e = absurd like
same_items (x ∷ xs) (y ∷ ys) a b like e =
    let first = first_item x y xs ys a b like.0 e in
    let rest = same_items xs ys a b (like.1 first.0) first.1 in
    (ap (λ (i : Item). i ∷ xs) first.0 ∙ ap (λ (l : List Item). y ∷ l) rest.0, rest.1)

pub one_request : (hash : HashKind) (r q : Request) (a b : List ℕ) → IsRequest hash r → IsRequest hash q → spelling r ++ a ≡ spelling q ++ b → (r ≡ q) × (a ≡ b)
unfolding spelling
one_request hash r q a b p s e =
    let same = same_items (items_of r) (items_of q) a b (alike hash r q p s) e in (same_request hash r q p s same.0, same.1)

some_text : (hash : HashKind) (items : List Item) (rest : List ℕ) → Leads hash AtFirst items AtOver → [] ≡ items_text items ++ rest → ⊥
some_text hash [] rest p e = cc
some_text hash ((Line []) ∷ items) rest p e = cc
some_text hash ((Line (b ∷ line)) ∷ items) rest p e = cc
some_text hash ((Block []) ∷ items) rest p e = cc
some_text hash ((Block (b ∷ line)) ∷ items) rest p e = cc

pub nothing_whole : (hash : HashKind) → HasNoRequest hash []
unfolding spelling
nothing_whole hash r rest fits e = some_text hash (items_of r) rest (request_leads hash r fits) e

-- A part of an item is not the whole of one.
not_whole : (x y : Item) (part more : List ℕ) → SameKind x y → IsPart x part → part ≡ item_text y ++ more → ⊥
not_whole (Line a) (Line b) part more k p e = has_byte 10 b more (subst NoNewline (e ∙ open_ended b more) p.open_line)
not_whole (Line a) (Block b) part more k p e = absurd k
not_whole (Block a) (Line b) part more k p e = absurd k
not_whole (Block a) (Block b) part more k p e = absurd (omega (arith, k, p, ap length e, length-append (ended b) more, length-append b (10 ∷ [])))

not_all : (before after ys : List Item) (next : Item) (part a : List ℕ) → AreAlike (before ++ next ∷ after) ys → IsPart next part → items_text before ++ part ≡ items_text ys ++ a → ⊥
not_all [] after [] next part a like p e = absurd like
not_all [] after (y ∷ ys) next part a like p e = not_whole next y part (items_text ys ++ a) like.0 p (e ∙ append_assoc (item_text y) (items_text ys) a)
not_all (b ∷ bs) after [] next part a like p e = absurd like
not_all (b ∷ bs) after (y ∷ ys) next part a like p e =
    let first = first_item b y bs ys part a like.0 e in
    not_all bs after ys next part a (like.1 first.0) p first.1

pub begun_not_whole : (hash : HashKind) (bytes : List ℕ) → Begins hash bytes → HasNoRequest hash bytes
unfolding spelling
begun_not_whole hash bytes h q a fits e =
    not_all h.before h.after (items_of q) h.next h.part a (subst (λ (items : List Item). AreAlike items (items_of q)) h.place (alike hash h.request q h.fits fits)) h.begun (sym h.is ∙ e)

-- Where the front of a request is cut off, it has begun or is whole.
record IsBegun (items : List Item) (bytes : List ℕ) : Type 0 where
  before : List Item
  next : Item
  after : List Item
  part : List ℕ
  place : items ≡ before ++ next ∷ after
  begun : IsPart next part
  is : bytes ≡ items_text before ++ part

-- Each front of an item is a part of it.
abbrev Fits : Item → Type 0
Fits (Line bytes) = IsPartialLine bytes
Fits (Block bytes) = Unit {0}

items_fit : (xs : List Item) → AreAlike xs xs → AllByRecursion IsShort xs → AllByRecursion Fits xs
items_fit [] like short = tt
items_fit ((Line l) ∷ xs) like short = (record { open_line = like.0.0; short = short.0 }, items_fit xs (like.1 refl) short.1)
items_fit ((Block b) ∷ xs) like short = (tt, items_fit xs (like.1 refl) short.1)

cut_text : (l a p x : List ℕ) → l ++ 10 ∷ a ≡ p ++ x → ((t : List ℕ) × (l ≡ p ++ t)) ⊎ ((m : List ℕ) × (p ≡ l ++ 10 ∷ m) × (a ≡ m ++ x))
cut_text l a [] x e = inl (l, refl)
cut_text [] a (c ∷ p) x e =
    let first : c ∷ p ≡ 10 ∷ p = cc in
    let rest : a ≡ p ++ x = cc in
    inr (p, first, rest)
cut_text (b ∷ l) a (c ∷ p) x e =
    let first : b ≡ c = cc in
    let rest : l ++ 10 ∷ a ≡ p ++ x = cc in
    elim (cut_text l a p x rest) [
      | inl (t, is) ↦ inl (t, ap (λ (d : ℕ). d ∷ l) first ∙ ap (λ (y : List ℕ). c ∷ y) is)
      | inr (m, is, same) ↦ inr (m, ap (λ (d : ℕ). d ∷ p) (sym first) ∙ ap (λ (y : List ℕ). b ∷ y) is, same)
    ]

front_of : (x : Item) (a p rest : List ℕ) → Fits x → item_text x ++ a ≡ p ++ rest → IsPart x p ⊎ ((m : List ℕ) × (p ≡ item_text x ++ m) × (a ≡ m ++ rest))
front_of (Line l) a p rest fits e = elim (cut_text l a p rest (sym (open_ended l a) ∙ e)) [
  | inl (t, is) ↦ inl (record { open_line = without_front 10 p t (subst NoNewline is fits.open_line); short = omega (arith, fits.short, ap length is, length-append p t) })
  | inr (m, is, same) ↦ inr (m, is ∙ sym (open_ended l m), same)
]
front_of (Block b) a p rest fits e = elim (cut_text b a p rest (sym (open_ended b a) ∙ e)) [
  | inl (t, is) ↦ inl (omega (arith, ap length is, length-append p t))
  | inr (m, is, same) ↦ inr (m, is ∙ sym (open_ended b m), same)
]

cut : (xs : List Item) (a p rest : List ℕ) → AllByRecursion Fits xs → items_text xs ++ a ≡ p ++ rest → IsBegun xs p ⊎ ((m : List ℕ) × (p ≡ items_text xs ++ m))
cut [] a p rest fits e = inr (p, refl)
cut (x ∷ xs) a p rest fits e = elim (front_of x (items_text xs ++ a) p rest fits.0 (sym (append_assoc (item_text x) (items_text xs) a) ∙ e)) [
  | inl part ↦ inl (record { before = []; next = x; after = xs; part = p; place = refl; begun = part; is = refl })
  | inr (m, is, same) ↦ elim (cut xs a m rest fits.1 same) [
    | inl c ↦ inl (record {
      before = x ∷ c.before;
      next = c.next;
      after = c.after;
      part = c.part;
      place = ap (λ (l : List Item). x ∷ l) c.place;
      begun = c.begun;
      is = is ∙ ap (λ (l : List ℕ). item_text x ++ l) c.is ∙ sym (append_assoc (item_text x) (items_text c.before) c.part);
    })
    | inr (n, all) ↦ inr (n, is ∙ ap (λ (l : List ℕ). item_text x ++ l) all ∙ sym (append_assoc (item_text x) (items_text xs) n))
  ]
]

malformed_not_whole : (hash : HashKind) (front more : List ℕ) (b : ℕ) → IsMalformed hash (front ++ b ∷ []) → HasNoRequest hash (front ++ b ∷ more)
unfolding spelling
malformed_not_whole hash front more b bad q rest fits e =
    elim (cut (items_of q) rest (front ++ b ∷ []) more (items_fit (items_of q) (alike hash q q fits fits) fits.short) (sym e ∙ sym (append_assoc front (b ∷ []) more))) [
      | inl c ↦ bad.part (record { request = q; before = c.before; next = c.next; after = c.after; part = c.part; fits = fits; place = c.place; begun = c.begun; is = c.is })
      | inr (m, is) ↦ bad.whole q m fits is
    ]

stopped_not_whole : (hash : HashKind) (ends : Type 0) (front more : List ℕ) → Begins hash front → StopsAt hash ends front more → HasNoRequest hash (front ++ more)
stopped_not_whole hash ends front [] begins stops = subst (HasNoRequest hash) (sym (append-nil front)) (begun_not_whole hash front begins)
stopped_not_whole hash ends front (b ∷ more) begins stops = malformed_not_whole hash front more b stops

pub bad_not_whole : (hash : HashKind) (bytes : List ℕ) (ends : Type 0) (newlines : ℕ) → IsBad hash bytes ends newlines → HasNoRequest hash bytes
bad_not_whole hash bytes ends newlines h = subst (HasNoRequest hash) (sym h.split) (stopped_not_whole hash ends h.front h.more h.begins h.stops)

pub one_script : (hash : HashKind) (rs qs : List Request) (a b : List ℕ) → AllByRecursion (IsRequest hash) rs → AllByRecursion (IsRequest hash) qs → HasNoRequest hash a → HasNoRequest hash b → flat_map spelling rs ++ a ≡ flat_map spelling qs ++ b → (rs ≡ qs) × (a ≡ b)
one_script hash [] [] a b p s none none' e = (refl, e)
one_script hash [] (q ∷ qs) a b p s none none' e = absurd (none q (flat_map spelling qs ++ b) s.0 (e ∙ append_assoc (spelling q) (flat_map spelling qs) b))
one_script hash (r ∷ rs) [] a b p s none none' e = absurd (none' r (flat_map spelling rs ++ a) p.0 (sym e ∙ append_assoc (spelling r) (flat_map spelling rs) a))
one_script hash (r ∷ rs) (q ∷ qs) a b p s none none' e =
    let first = one_request hash r q (flat_map spelling rs ++ a) (flat_map spelling qs ++ b) p.0 s.0 (sym (append_assoc (spelling r) (flat_map spelling rs) a) ∙ e ∙ append_assoc (spelling q) (flat_map spelling qs) b) in
    let rest = one_script hash rs qs a b p.1 s.1 none none' first.1 in
    (ap (λ (x : Request). x ∷ rs) first.0 ∙ ap (λ (l : List Request). q ∷ l) rest.0, rest.1)
