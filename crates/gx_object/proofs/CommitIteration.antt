-- An iterator over a commit gives its items by their number.
use Rattle.std.proofs.Common.{◌≡◌, ◌≢◌, ◌∙◌, sym, ap, refl, subst, ℕ, zero, suc, ◌+◌, ◌-◌, ◌<◌, List, [], ◌∷◌, ◌++◌, length, drop, codes, arith, length-append, Some, inl, inr, Ok, Err}
use Rattle.std.proofs.lemmas.List.{append-nil}
use Rattle.gx_hash.specs.declared.kind.HashKind.{HashKind}
use Rattle.gx_object.specs.declared.commit.iter.CommitToken.{CommitToken}
use Rattle.gx_object.specs.declared.decode.DecodeError.{DecodeError}
use Rattle.gx_object.specs.declared.decode.DecodeError.TheVariants.{Decode}
use Rattle.gx_object.specs.CommitNext.{Next, Tree, Parents, Committer, Encoding, Headers, End, CommitPlace}
use Rattle.gx_object.specs.CommitSpelling.{SpellsCommit}
use Rattle.gx_object.specs.PartsRead.{PartsRead, left_of}
use Rattle.gx_object.specs.CommitItems.{Item, items_of, item_of, ItemAt, ReadsAll, Stuck, Given, EndsHeader, Left, LeftBehind, IsRefusal, HasKind, IsNext, Tells, GivesPart, parts_left, IsAt, given_at}
use Rattle.gx_object.proofs.IterLemmas.{next_some, next_none, header_length, line_length}
use Rattle.gx_object.specs.Laws.OneCommit.{reads_commit}

-- what is said of an iterator at a place that has given n items
abbrev pub read_at : CommitPlace → ℕ → PartsRead
read_at place n = record { text = record { hash = place.hash; bytes = place.bytes }; given = given_at place.next n }

-- the place after an item
abbrev pub place_after : CommitPlace → List ℕ → Next → CommitPlace
place_after old rest next = record { hash = old.hash; bytes = old.bytes; rest = rest; next = next }

still_at : (s : Next) (n : ℕ) → s ≢ End → given_at s n ≡ Some n
still_at Tree n other = refl
still_at Parents n other = refl
still_at Committer n other = refl
still_at Encoding n other = refl
still_at Headers n other = refl
still_at End n other = absurd (other refl)

-- ---- the first place

pub begins : (hash : HashKind) (bytes : List ℕ) → IsAt (record { hash = hash; bytes = bytes; rest = bytes; next = Tree }) 0
begins hash bytes = record {
  items = [];
  given = record { front = []; whole = refl; front_is = (refl, refl); ends = λ h. absurd (cc) };
  count = refl;
  left = λ c s. reads_commit hash bytes c s;
  short = omega arith;
}

-- ---- an item

item_takes : (hash : HashKind) (s : Next) (bytes : List ℕ) (i : Item) (more : List ℕ) (t : Next) → ItemAt hash s bytes i more t → length more < length bytes
item_takes hash Tree bytes i more t p = line_length bytes (codes "tree ") p.1.0 more p.1.2.1
item_takes hash Parents bytes i more t (inl p) = line_length bytes (codes "parent ") p.1.0 more p.1.2.1
item_takes hash Parents bytes i more t (inr p) = line_length bytes (codes "author ") p.1.2.line more p.1.2.is
item_takes hash Committer bytes i more t p = line_length bytes (codes "committer ") p.1.2.line more p.1.2.is
item_takes hash Encoding bytes i more t (inl p) = header_length bytes p.1.0 more p.1.1
item_takes hash Encoding bytes i more t (inr p) = omega (arith, ap length p.1, ap length p.2.2)
item_takes hash Headers bytes i more t (inl p) = header_length bytes p.1.0 more p.1.1
item_takes hash Headers bytes i more t (inr p) = omega (arith, ap length p.1, ap length p.2.2)
item_takes hash End bytes i more t p = absurd p

-- the last item leaves nothing
ends_rest : (hash : HashKind) (s : Next) (bytes : List ℕ) (i : Item) (more : List ℕ) (t : Next) → ItemAt hash s bytes i more t → t ≡ End → more ≡ []
ends_rest hash Tree bytes i more t p e = let f = p.0 in absurd (cc)
ends_rest hash Parents bytes i more t (inl p) e = let f = p.0 in absurd (cc)
ends_rest hash Parents bytes i more t (inr p) e = let f = p.0 in absurd (cc)
ends_rest hash Committer bytes i more t p e = let f = p.0 in absurd (cc)
ends_rest hash Encoding bytes i more t (inl p) e = let f = p.0 in absurd (cc)
ends_rest hash Encoding bytes i more t (inr p) e = p.1
ends_rest hash Headers bytes i more t (inl p) e = let f = p.0 in absurd (cc)
ends_rest hash Headers bytes i more t (inr p) e = p.1
ends_rest hash End bytes i more t p e = absurd p

drop_next : (n : ℕ) (xs : List Item) (i : Item) (is : List Item) → drop n xs ≡ i ∷ is → drop (n + 1) xs ≡ is
drop_next zero [] i is e = absurd (cc)
drop_next zero (x ∷ xs) i is e = cc
drop_next (suc n) [] i is e = absurd (cc)
drop_next (suc n) (x ∷ xs) i is e =
    let more : suc n + 1 ≡ suc (n + 1) = omega arith in
    ap (λ k. drop k (x ∷ xs)) more ∙ drop_next n xs i is e

drop_front : (xs ys : List Item) → drop (length xs) (xs ++ ys) ≡ ys
drop_front [] ys = refl
drop_front (x ∷ xs) ys = drop_front xs ys

-- what was left begins with the item
record Follows (xs : List Item) (i : Item) (new : CommitPlace) : Type 0 where
  later : List Item
  is : xs ≡ i ∷ later
  left : Left new later

left_item : (xs : List Item) (token : CommitToken) (new : CommitPlace) → LeftBehind xs (Some (Ok token)) new → Follows xs (item_of token) new
left_item [] token new p = let e = p.0 in absurd (cc)
left_item (i ∷ is) token new (other, e, same, l) =
    let one : token ≡ other = cc in
    record { later = is; is = ap (λ j. j ∷ is) (sym same ∙ ap item_of (sym one)); left = l }

none_at_end : (hash : HashKind) (s : Next) (rest : List ℕ) (is : List Item) → ReadsAll hash s rest is → s ≡ End → is ≡ []
none_at_end hash s rest [] p e = refl
none_at_end hash s rest (i ∷ is) p e = absurd (subst (λ t. ItemAt hash t rest i p.0 p.1) e p.2)

after_item : (s : Next) (n : ℕ) (xs : List Item) (i : Item) (later : List Item) → drop n xs ≡ i ∷ later → (s ≡ End → later ≡ []) → left_of (given_at s (n + 1)) xs ≡ later
after_item Tree n xs i later e h = drop_next n xs i later e
after_item Parents n xs i later e h = drop_next n xs i later e
after_item Committer n xs i later e h = drop_next n xs i later e
after_item Encoding n xs i later e h = drop_next n xs i later e
after_item Headers n xs i later e h = drop_next n xs i later e
after_item End n xs i later e h = sym (h refl)

told_item : (hash : HashKind) (bytes rest : List ℕ) (s : Next) (n : ℕ) (items : List Item) (i : Item) → length items ≡ n
    → Given (record { hash = hash; bytes = bytes; rest = rest; next = s }) (items ++ i ∷ []) → (s ≡ End → rest ≡ [])
    → Tells (record { hash = hash; bytes = bytes }) n i (given_at s (n + 1))
told_item hash bytes rest Tree n items i count g ended = (refl, record { stage = Tree; front = g.front; rest = rest; before = items; whole = g.whole; front_is = g.front_is; count = count })
told_item hash bytes rest Parents n items i count g ended = (refl, record { stage = Parents; front = g.front; rest = rest; before = items; whole = g.whole; front_is = g.front_is; count = count })
told_item hash bytes rest Committer n items i count g ended = (refl, record { stage = Committer; front = g.front; rest = rest; before = items; whole = g.whole; front_is = g.front_is; count = count })
told_item hash bytes rest Encoding n items i count g ended = (refl, record { stage = Encoding; front = g.front; rest = rest; before = items; whole = g.whole; front_is = g.front_is; count = count })
told_item hash bytes rest Headers n items i count g ended = (refl, record { stage = Headers; front = g.front; rest = rest; before = items; whole = g.whole; front_is = g.front_is; count = count })
told_item hash bytes rest End n items i count g ended =
    let all : bytes ≡ g.front = g.whole ∙ ap (λ l. g.front ++ l) (ended refl) ∙ append-nil g.front in
    record {
      commit = g.front_is.0;
      spells = subst (λ b. SpellsCommit hash b g.front_is.0) (sym all) g.front_is.1;
      last = ap (drop n) (sym g.front_is.2) ∙ ap (λ k. drop k (items ++ i ∷ [])) (sym count) ∙ drop_front items (i ∷ []);
    }

pub gives : (old : CommitPlace) (n : ℕ) (token : CommitToken) (rest : List ℕ) (next : Next) → IsAt old n → old.next ≢ End → HasKind old.hash (Some (Ok token)) → ItemAt old.hash old.next old.rest (item_of token) rest next
    → GivesPart (read_at old n) (Some (Ok token)) (read_at (place_after old rest next) (n + 1))
gives old n token rest next a other kind p =
    let step = next_some old token rest next kind p in
    record {
      same = refl;
      kind = kind;
      commit = λ c s.
          let f = left_item (drop n (items_of c)) token (place_after old rest next) (step.left (drop n (items_of c)) (a.left c s)) in
          let after = after_item next n (items_of c) (item_of token) f.later f.is (λ e. none_at_end old.hash next rest f.later f.left e) in
          subst (λ g. IsNext (left_of g (items_of c)) (Some (Ok token)) (left_of (given_at next (n + 1)) (items_of c))) (sym (still_at old.next n other))
          (subst (λ l. IsNext l (Some (Ok token)) (left_of (given_at next (n + 1)) (items_of c))) (sym f.is) (refl, after));
      told = (
        n,
        still_at old.next n other,
        told_item old.hash old.bytes rest next n a.items (item_of token) a.count (step.given a.items a.given) (λ e. ends_rest old.hash old.next old.rest (item_of token) rest next p e),
      );
    }

pub goes_on : (old : CommitPlace) (n : ℕ) (token : CommitToken) (rest : List ℕ) (next : Next) → IsAt old n → HasKind old.hash (Some (Ok token)) → ItemAt old.hash old.next old.rest (item_of token) rest next
    → IsAt (place_after old rest next) (n + 1)
goes_on old n token rest next a kind p =
    let step = next_some old token rest next kind p in
    record {
      items = a.items ++ item_of token ∷ [];
      given = step.given a.items a.given;
      count = length-append a.items (item_of token ∷ []) ∙ ap (λ k. k + 1) a.count;
      left = λ c s.
          let f = left_item (drop n (items_of c)) token (place_after old rest next) (step.left (drop n (items_of c)) (a.left c s)) in
          subst (λ l. Left (place_after old rest next) l) (sym (drop_next n (items_of c) (item_of token) f.later f.is)) f.left;
      short = omega (arith, a.short, item_takes old.hash old.next old.rest (item_of token) rest next p);
    }

-- there is room to count it
pub counted : (old : CommitPlace) (n : ℕ) (i : Item) (rest : List ℕ) (next : Next) → IsAt old n → ItemAt old.hash old.next old.rest i rest next → n < length old.bytes
counted old n i rest next a p = omega (arith, a.short, item_takes old.hash old.next old.rest i rest next p)

fewer_at : (hash : HashKind) (bytes : List ℕ) (s : Next) (n : ℕ) → n < length bytes → parts_left (record { text = record { hash = hash; bytes = bytes }; given = given_at s (n + 1) }) < length bytes - n + 1
fewer_at hash bytes Tree n h = omega (arith, h)
fewer_at hash bytes Parents n h = omega (arith, h)
fewer_at hash bytes Committer n h = omega (arith, h)
fewer_at hash bytes Encoding n h = omega (arith, h)
fewer_at hash bytes Headers n h = omega (arith, h)
fewer_at hash bytes End n h = omega arith

pub fewer_left : (old : CommitPlace) (n : ℕ) (i : Item) (rest : List ℕ) (next : Next) → IsAt old n → old.next ≢ End → ItemAt old.hash old.next old.rest i rest next
    → parts_left (read_at (place_after old rest next) (n + 1)) < parts_left (read_at old n)
fewer_left old n i rest next a other p =
    subst (λ g. parts_left (read_at (place_after old rest next) (n + 1)) < parts_left (record { text = record { hash = old.hash; bytes = old.bytes }; given = g })) (sym (still_at old.next n other))
    (fewer_at old.hash old.bytes next n (counted old n i rest next a p))

-- ---- the refusal

pub refuses : (old : CommitPlace) (n : ℕ) (error : DecodeError) → IsAt old n → old.next ≢ End → (EndsHeader old.next old.rest → Stuck old.hash old.next old.rest) → error ≡ Decode (length old.bytes - length old.rest)
    → GivesPart (read_at old n) (Some (Err error)) (read_at (place_after old old.rest End) n)
refuses old n error a other stuck place =
    let step = next_none old error other stuck place in
    let wrong : IsRefusal old (Decode (length old.bytes - length old.rest)) = subst (IsRefusal old) place (step.given a.items a.given).1 in
    record {
      same = refl;
      kind = tt;
      commit = λ c s. absurd (no_left (drop n (items_of c)) (step.left (drop n (items_of c)) (a.left c s)));
      told = (
        n,
        still_at old.next n other,
        record {
          at = length old.bytes - length old.rest;
          error = place;
          none = wrong.0;
          stage = old.next;
          front = a.given.front;
          before = a.items;
          at_is = omega (arith, ap length a.given.whole, length-append a.given.front old.rest);
          front_is = a.given.front_is;
          count = a.count;
        },
        refl,
      );
    }
  where
    no_left : (xs : List Item) → LeftBehind xs (Some (Err error)) (place_after old old.rest End) → ⊥
    no_left [] p = let e = p.0 in absurd (cc)
    no_left (i ∷ is) p = let e = p.1 in absurd (cc)

pub some_left : (old : CommitPlace) (n : ℕ) → old.next ≢ End → parts_left (read_at (place_after old old.rest End) n) < parts_left (read_at old n)
some_left old n other =
    subst (λ g. 0 < parts_left (record { text = record { hash = old.hash; bytes = old.bytes }; given = g })) (sym (still_at old.next n other)) (omega arith)
