-- The parents of a commit are read one by one.
use Rattle.std.proofs.Common.{◌≡◌, ℕ, zero, suc, ◌+◌, List, [], ◌∷◌, ◌++◌, map, drop, Ok, Some, None, Option, Result, refl, sym, ap, ◌∙◌, subst, add-one, append-nil, append_assoc}
use Rattle.std.specs.Option.{option_map}
use Rattle.std.proofs.lemmas.List.{map_push}
use Rattle.gx_hash.specs.ObjectId.{hex_of, id_from_hex}
use Rattle.gx_hash.specs.declared.oid.ObjectId.{ObjectId}
use Rattle.gx_hash.specs.declared.oid.HexError.{HexError}
use Rattle.gx_object.specs.CommitSpelling.{CommitText, SpellsCommit}
use Rattle.gx_object.specs.ParentIds.{IsNextParent, GivesParent}
use Rattle.gx_object.specs.PartsRead.{ObjectText, PartsRead, left_of}

abbrev ok : ObjectId → Result ObjectId HexError
ok id = Ok id

-- so many parents were read, and the others are left
pub record AreRead (text : ObjectText) (place : PartsRead) (parents : List (List ℕ)) (ids : List ObjectId) : Type 0 where
  pub same : place.text ≡ text
  pub count : ℕ
  pub given : place.given ≡ Some count
  pub done : List (List ℕ)
  pub all : parents ≡ done ++ drop count parents
  pub read : map id_from_hex done ≡ map ok ids

pub read_start : (text : ObjectText) (place : PartsRead) (parents : List (List ℕ)) (ids : List ObjectId) → place ≡ record { text = text; given = Some 0 } → ids ≡ [] → AreRead text place parents ids
read_start text place parents ids start empty = record {
  same = ap (λ (p : PartsRead). p.text) start;
  count = 0;
  given = ap (λ (p : PartsRead). p.given) start;
  done = [];
  all = refl;
  read = ap (map ok) (sym empty);
}

rest_of : (n : ℕ) (xs : List (List ℕ)) (p : List ℕ) (ps : List (List ℕ)) → drop n xs ≡ p ∷ ps → drop (suc n) xs ≡ ps
rest_of zero [] p ps e = cc
rest_of zero (x ∷ xs) p ps e = cc
rest_of (suc n) [] p ps e = cc
rest_of (suc n) (x ∷ xs) p ps e = rest_of n xs p ps e

-- what a call gives of the parents that are left
next_is : (text : ObjectText) (old new : PartsRead) (c : CommitText) (ids : List ObjectId) (item : Option ObjectId) → SpellsCommit text.hash text.bytes c → (it : AreRead text old c.parents ids) → GivesParent old item new → IsNextParent old.text.hash (drop it.count c.parents) item
next_is text old new c ids item spelled it gives =
    subst (λ g. IsNextParent old.text.hash (left_of g c.parents) item) it.given
    (gives.commit c (subst (λ (t : ObjectText). SpellsCommit t.hash t.bytes c) (sym it.same) spelled))

pub read_next : (text : ObjectText) (old new : PartsRead) (c : CommitText) (ids more : List ObjectId) (id : ObjectId) → SpellsCommit text.hash text.bytes c → AreRead text old c.parents ids → GivesParent old (Some id) new → id_from_hex (hex_of id) ≡ Ok id → more ≡ ids ++ id ∷ [] → AreRead text new c.parents more
read_next text old new c ids more id spelled it gives back is = go (drop it.count c.parents) refl (next_is text old new c ids (Some id) spelled it gives) where
  go : (left : List (List ℕ)) → drop it.count c.parents ≡ left → IsNextParent old.text.hash left (Some id) → AreRead text new c.parents more
  go [] e h = absurd h
  go (p ∷ ps) e h = record {
    same = gives.same ∙ it.same;
    count = suc it.count;
    given = gives.count ∙ ap (λ g. option_map (λ n. n + 1) g) it.given ∙ ap Some (add-one it.count);
    done = it.done ++ p ∷ [];
    all = it.all ∙ ap (λ w. it.done ++ w) e ∙ sym (append_assoc it.done (p ∷ []) ps) ∙ ap (λ w. (it.done ++ p ∷ []) ++ w) (sym (rest_of it.count c.parents p ps e));
    read = map_push id_from_hex it.done p ∙ ap (λ w. w ++ id_from_hex p ∷ []) it.read ∙ ap (λ w. map ok ids ++ w ∷ []) (ap id_from_hex (sym h.0) ∙ back) ∙ sym (ap (map ok) is ∙ map_push ok ids id);
  }

pub read_end : (text : ObjectText) (old new : PartsRead) (c : CommitText) (ids : List ObjectId) → SpellsCommit text.hash text.bytes c → AreRead text old c.parents ids → GivesParent old None new → map id_from_hex c.parents ≡ map ok ids
read_end text old new c ids spelled it gives = go (drop it.count c.parents) refl (next_is text old new c ids None spelled it gives) where
  go : (left : List (List ℕ)) → drop it.count c.parents ≡ left → IsNextParent old.text.hash left None → map id_from_hex c.parents ≡ map ok ids
  go [] e h = ap (map id_from_hex) (it.all ∙ ap (λ w. it.done ++ w) e ∙ append-nil it.done) ∙ it.read
  go (p ∷ ps) e h = absurd h
