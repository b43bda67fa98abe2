-- One node of the list is changed.
use Rattle.std.proofs.Common.{◌≡◌, ◌≢◌, ◌∙◌, ◌<◌, sym, ap, refl, subst, List, [], ◌∷◌, ℕ, zero, suc, Option, Some, None, option_map, length, get_or, set, arith, length-set}
use Rattle.std.specs.Prelude.{Result, OnOk, OnErr}
use Rattle.std.proofs.lemmas.Result.{on_ok_weaker, on_err_weaker}
use Rattle.std.specs.FinMap as fin
use Rattle.std.specs.FinMap.{get, get-empty}
use Rattle.gx_rules.specs.Name.{name_cmp}
use Rattle.gx_edit.specs.Path.{Path}
use Rattle.gx_edit.specs.View.{Names, only}
use Rattle.std.specs.Prelude.{slice_get}
use Rattle.std.proofs.lemmas.List.{length-map, get_or-set_same}
use Rattle.std.proofs.lemmas.Option.{slice_get-map, slice_get-get_or}
use Rattle.gx_edit.specs.Nodes.{Place, Changes, AreLinked, place_of, places_of, inner_at, onward, walk, names_there, view_at}
use Rattle.gx_edit.specs.declared.editor.nodes.Node.{Node}

set_other : (ns : List Node) (at i : ℕ) (x : Node) → i ≢ at → slice_get (set ns at x) i ≡ slice_get ns i
set_other [] at i x ne = refl
set_other (n ∷ ns) zero zero x ne = absurd (ne refl)
set_other (n ∷ ns) zero (suc i) x ne = refl
set_other (n ∷ ns) (suc at) zero x ne = refl
set_other (n ∷ ns) (suc at) (suc i) x ne = set_other ns at i x (λ e. ne (ap suc e))

pub place_seen : (ns : List Node) (at : ℕ) (d : Node) → at < length ns → slice_get (places_of ns) at ≡ Some (place_of (get_or ns at d))
place_seen ns at d less = slice_get-map place_of ns at ∙ ap (option_map place_of) (slice_get-get_or ns at d less)

pub changed_at : (ns : List Node) (at : ℕ) (x d : Node) (change : Place → Place) → at < length ns → place_of x ≡ change (place_of (get_or ns at d)) → Changes (places_of ns) at change (places_of (set ns at x))
changed_at ns at x d change less is = record {
  len = length-map (set ns at x) place_of ∙ length-set ns at x ∙ sym (length-map ns place_of);
  here =
      place_seen (set ns at x) at x (let len = length-set ns at x in omega (arith, less, len))
      ∙ ap (λ (n : Node). Some (place_of n)) (get_or-set_same ns at x x less)
      ∙ ap Some is
      ∙ sym (ap (option_map change) (place_seen ns at d less));
  others = λ i ne. slice_get-map place_of (set ns at x) i ∙ ap (option_map place_of) (set_other ns at i x ne) ∙ sym (slice_get-map place_of ns i);
}

pub unchanged_at : (ns : List Node) (at : ℕ) (x d : Node) → at < length ns → place_of x ≡ place_of (get_or ns at d) → places_of (set ns at x) ≡ places_of ns
unchanged_at [] at x d less is = refl
unchanged_at (n ∷ ns) zero x d less is = ap (λ (p : Place). p ∷ places_of ns) is
unchanged_at (n ∷ ns) (suc at) x d less is = ap (λ (ps : List Place). place_of n ∷ ps) (unchanged_at ns at x d (omega (arith, less)) is)

-- ---- as calls tell it

pub ok_changed : {T E : Type 0} (r : Result T E) (ns : List Node) (at : ℕ) (x d : Node) (change : Place → Place) → at < length ns → d ≡ get_or ns at d → OnOk r (place_of x ≡ change (place_of d)) → OnOk r (Changes (places_of ns) at change (places_of (set ns at x)))
ok_changed r ns at x d change less value h = on_ok_weaker r (λ (e : place_of x ≡ change (place_of d)). changed_at ns at x d change less (e ∙ ap (λ (n : Node). change (place_of n)) value)) h

pub err_unchanged : {T E : Type 0} (r : Result T E) (ns : List Node) (at : ℕ) (x d : Node) → at < length ns → d ≡ get_or ns at d → OnErr r (place_of x ≡ place_of d) → OnErr r (places_of (set ns at x) ≡ places_of ns)
err_unchanged r ns at x d less value h = on_err_weaker r (λ (e : place_of x ≡ place_of d). unchanged_at ns at x d less (e ∙ ap place_of value)) h

pub same_place : (p q : Place) → p.names ≡ q.names → p.inner ≡ q.inner → p ≡ q
same_place p q names inner = λ i. record { names = names i; inner = inner i }

-- ---- one directory alone

pub lone_linked : (items : List Node) (node : Node) (names : Names) → items ≡ node ∷ [] → place_of node ≡ record { names = names; inner = fin.empty } → AreLinked (places_of items)
lone_linked items node names is place = subst (λ (ns : List Node). AreLinked (places_of ns)) (sym is) (record {
  some = omega arith;
  within = λ at inner n e. absurd (none at inner n e);
  once = λ at other inner n m e f. absurd (none at inner n e);
  trees = λ at inner n e. absurd (none at inner n e);
})
  where
    none : (at inner : ℕ) (n : List ℕ) → inner_at (slice_get (places_of (node ∷ [])) at) n ≡ Some inner → ⊥
    none zero inner n e =
        let no : None ≡ Some inner = sym (ap (λ (p : Place). get p.inner n) place ∙ get-empty name_cmp n) ∙ e in
        cc
    none (suc at) inner n e = cc

pub lone_view : (items : List Node) (node : Node) (names : Names) → items ≡ node ∷ [] → place_of node ≡ record { names = names; inner = fin.empty } → view_at (places_of items) 0 ≡ only names
lone_view items node names is place = ap (λ (ns : List Node). view_at (places_of ns) 0) is ∙ (λ i q. go q i)
  where
    go : (q : Path) → view_at (places_of (node ∷ [])) 0 q ≡ only names q
    go [] = ap (λ (p : Place). Some p.names) place
    go (c ∷ q) = ap (λ (o : Option ℕ). names_there (places_of (node ∷ [])) (onward (λ inner. walk (places_of (node ∷ [])) inner q) o)) (ap (λ (p : Place). get p.inner c) place ∙ get-empty name_cmp c)
