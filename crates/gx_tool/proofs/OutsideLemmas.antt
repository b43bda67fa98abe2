-- Bytes that are taken or written one after another.
use Rattle.std.proofs.Common.{◌≡◌, ◌≢◌, ◌∙◌, sym, ap, refl, subst, ℕ, ◌≤◌, List, [], ◌++◌, length, take, drop, Option, Some, None, arith, append_assoc, take-append-drop}
use Rattle.std.proofs.lemmas.List.{append-nil, nil_from_length}
use Rattle.gx_store.specs.Faults.{Rose}
use Rattle.gx_store.specs.Outside.{Takes, Writes}
use Rattle.gx_tool.specs.Course.{WritesUpTo, WritesFront}

pub takes_none : (a : Option (List ℕ)) → Takes a a []
takes_none None = tt
takes_none (Some a) = refl

pub takes_then : (a b c : Option (List ℕ)) (xs ys : List ℕ) → Takes a b xs → Takes b c ys → Takes a c (xs ++ ys)
takes_then None None None xs ys p q = tt
takes_then None None (Some c) xs ys p q = absurd q
takes_then None (Some b) c xs ys p q = absurd p
takes_then (Some a) None c xs ys p q = absurd p
takes_then (Some a) (Some b) None xs ys p q = absurd q
takes_then (Some a) (Some b) (Some c) xs ys p q = p ∙ ap (λ l. xs ++ l) q ∙ sym (append_assoc xs ys c)

pub writes_none : (a : Option (List ℕ)) → Writes a a []
writes_none None = tt
writes_none (Some a) = sym (append-nil a)

pub writes_then : (a b c : Option (List ℕ)) (xs ys : List ℕ) → Writes a b xs → Writes b c ys → Writes a c (xs ++ ys)
writes_then None None None xs ys p q = tt
writes_then None None (Some c) xs ys p q = absurd q
writes_then None (Some b) c xs ys p q = absurd p
writes_then (Some a) None c xs ys p q = absurd p
writes_then (Some a) (Some b) None xs ys p q = absurd q
writes_then (Some a) (Some b) (Some c) xs ys p q = q ∙ ap (λ l. l ++ ys) p ∙ append_assoc a xs ys

pub rose_before : (a b c : ℕ) → a ≤ b → Rose b c → Rose a c
rose_before a b c p q = omega arith

pub rose_then : (a b c : ℕ) → Rose a b → b ≤ c → Rose a c
rose_then a b c p q = omega arith

pub up_to_more : (a b c : Option (List ℕ)) (bytes rest rest' : List ℕ) (n : ℕ) → rest' ≡ drop n rest → WritesUpTo a b bytes rest → Writes b c (take n rest) → WritesUpTo a c bytes rest'
up_to_more a b c bytes rest rest' n e w h = record {
  part = w.part ++ take n rest;
  is = append_assoc w.part (take n rest) rest' ∙ ap (λ l. w.part ++ (take n rest ++ l)) e ∙ ap (λ l. w.part ++ l) (take-append-drop n rest) ∙ w.is;
  writes = writes_then a b c w.part (take n rest) w.writes h;
}

pub up_to_all : (a b : Option (List ℕ)) (bytes rest : List ℕ) → length rest ≡ 0 → WritesUpTo a b bytes rest → Writes a b bytes
up_to_all a b bytes rest none w =
    let e : rest ≡ [] = nil_from_length rest none in
    subst (Writes a b) (sym (append-nil w.part) ∙ ap (λ l. w.part ++ l) (sym e) ∙ w.is) w.writes

pub up_to_front : (a b c : Option (List ℕ)) (bytes rest : List ℕ) → length rest ≢ 0 → WritesUpTo a b bytes rest → Writes b c [] → WritesFront a c bytes
up_to_front a b c bytes rest some w h = record {
  part = w.part ++ [];
  more = rest;
  is = ap (λ l. l ++ rest) (append-nil w.part) ∙ w.is;
  short = λ none. some (ap length none);
  writes = writes_then a b c w.part [] w.writes h;
}
