-- What a short name leaves out stands at the front of the name.
use Rattle.std.proofs.Common.{◌≡◌, ℕ, Bool, true, false, cond, ◌≤◌, List, [], ◌∷◌, length, nat_eq, codes, arith, refl, Some, None}
use Rattle.std.specs.List.{starts_with}
use Rattle.std.proofs.lemmas.Bool.{and_parts}
use Rattle.gx_rules.specs.Category.{category_of, shared_prefix}
use Rattle.gx_rules.specs.declared.category.Category.TheVariants.{Tag, LocalBranch, RemoteBranch, Note, PseudoRef}

-- a text is at least as long as what it begins with
pub length-starts_with : (needle xs : List ℕ) → starts_with nat_eq xs needle ≡ true → length needle ≤ length xs
length-starts_with [] xs h = omega arith
length-starts_with (n ∷ needle) [] h = absurd cc
length-starts_with (n ∷ needle) (x ∷ xs) h = let rest : starts_with nat_eq xs needle ≡ true = (and_parts _ _ h).1 in let below : length needle ≤ length xs = length-starts_with needle xs rest in omega arith

pseudo : (name : List ℕ) (t : Bool) → length (shared_prefix (cond t None (Some PseudoRef))) ≤ length name
pseudo name true = omega arith
pseudo name false = omega arith

notes : (name : List ℕ) (t u : Bool) → starts_with nat_eq name (codes "refs/notes/") ≡ t → length (shared_prefix (cond t (Some Note) (cond u None (Some PseudoRef)))) ≤ length name
notes name true u begins = let long : 11 ≤ length name = length-starts_with (codes "refs/notes/") name begins in omega arith
notes name false u begins = pseudo name u

remotes : (name : List ℕ) (t u v : Bool) → starts_with nat_eq name (codes "refs/remotes/") ≡ t → starts_with nat_eq name (codes "refs/notes/") ≡ u → length (shared_prefix (cond t (Some RemoteBranch) (cond u (Some Note) (cond v None (Some PseudoRef))))) ≤ length name
remotes name true u v begins other = length-starts_with (codes "refs/remotes/") name begins
remotes name false u v begins other = notes name u v other

heads : (name : List ℕ) (t u v w : Bool) → starts_with nat_eq name (codes "refs/heads/") ≡ t → starts_with nat_eq name (codes "refs/remotes/") ≡ u → starts_with nat_eq name (codes "refs/notes/") ≡ v → length (shared_prefix (cond t (Some LocalBranch) (cond u (Some RemoteBranch) (cond v (Some Note) (cond w None (Some PseudoRef)))))) ≤ length name
heads name true u v w begins other third = length-starts_with (codes "refs/heads/") name begins
heads name false u v w begins other third = remotes name u v w other third

tags : (name : List ℕ) (t u v w x : Bool) → starts_with nat_eq name (codes "refs/tags/") ≡ t → starts_with nat_eq name (codes "refs/heads/") ≡ u → starts_with nat_eq name (codes "refs/remotes/") ≡ v → starts_with nat_eq name (codes "refs/notes/") ≡ w → length (shared_prefix (cond t (Some Tag) (cond u (Some LocalBranch) (cond v (Some RemoteBranch) (cond w (Some Note) (cond x None (Some PseudoRef))))))) ≤ length name
tags name true u v w x begins other third fourth = length-starts_with (codes "refs/tags/") name begins
tags name false u v w x begins other third fourth = heads name u v w x other third fourth

pub prefix_fits : (name : List ℕ) → length (shared_prefix (category_of name)) ≤ length name
prefix_fits name = tags name _ _ _ _ _ refl refl refl refl
