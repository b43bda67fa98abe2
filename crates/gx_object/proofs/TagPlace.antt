-- Where bytes that spell no tag go wrong.
use Rattle.std.proofs.Common.{◌≡◌, ◌∙◌, sym, ap, subst, ℕ, List, [], ◌∷◌, ◌++◌, length, arith, append_assoc, length-append, ◌⊎◌, inl, inr}
use Rattle.std.proofs.lemmas.Bool.{cases_lt}
use Rattle.gx_hash.specs.declared.kind.HashKind.{HashKind}
use Rattle.gx_object.specs.CommitSpelling.{IsWholeLines}
use Rattle.gx_object.specs.CommitLines.{HasLine}
use Rattle.gx_object.specs.TagSpelling.{TagText, SpellsTag, BeginsTag, IsNoTag}
use Rattle.gx_object.specs.Laws.LineLemmas.{one_line}
use Rattle.gx_object.specs.Laws.OneCommit.{first_line}
use Rattle.gx_object.proofs.TagSignatures.{longer, whole_behind}

-- what may follow: nothing, or a whole line
abbrev pub Follows : Type 0 → (List ℕ → Type 0) → List ℕ → Type 0
Follows Ends Allowed bytes = ((bytes ≡ []) × Ends) ⊎ ((line more : List ℕ) × HasLine bytes line more × Allowed line)

-- no line in front may follow
abbrev pub IsStuck : (List ℕ → Type 0) → List ℕ → Type 0
IsStuck Allowed rest = (line more : List ℕ) → HasLine rest line more → Allowed line → ⊥

-- of a tag that begins with the front, this may follow
abbrev pub LeadsTag : HashKind → List ℕ → Type 0 → (List ℕ → Type 0) → Type 0
LeadsTag hash front Ends Allowed = (x : List ℕ) (t : TagText) → SpellsTag hash (front ++ x) t → Follows Ends Allowed x

empty_whole : (o : List ℕ) → IsWholeLines o → (o ≡ []) ⊎ ((line more : List ℕ) × HasLine o line more)
empty_whole o (inl e) = inl e
empty_whole o (inr (f, e)) = let l = first_line f [] in inr (l.line, l.rest, record { is = e ∙ l.is; one = l.one })

no_further : (Ends : Type 0) (Allowed : List ℕ → Type 0) (rest o x y : List ℕ) → IsStuck Allowed rest → rest ≡ o ++ x → IsWholeLines o → Follows Ends Allowed (o ++ y) → o ≡ []
no_further Ends Allowed rest o x y stuck e w f = elim (empty_whole o w) [
  | inl h ↦ h
  | inr h ↦
      let line = h.0 in
      let more = h.1 in
      let has = h.2 in
      let with_x : HasLine rest line (more ++ x) = record { is = e ∙ ap (λ l. l ++ x) has.is ∙ append_assoc line (10 ∷ more) x; one = has.one } in
      let with_y : HasLine (o ++ y) line (more ++ y) = record { is = ap (λ l. l ++ y) has.is ∙ append_assoc line (10 ∷ more) y; one = has.one } in
      elim f [
        | inl p ↦ absurd (some line more y (sym (with_y.is) ∙ p.0))
        | inr p ↦ absurd (stuck line (more ++ x) with_x (subst Allowed (sym (one_line (o ++ y) line p.0 (more ++ y) p.1 with_y p.2).0) p.3))
      ]
]
  where
    some : (line more y : List ℕ) → line ++ 10 ∷ (more ++ y) ≡ [] → ⊥
    some [] more y k = cc
    some (b ∷ bs) more y k = cc

pub refused : (hash : HashKind) (bytes front rest : List ℕ) (Ends : Type 0) (Allowed : List ℕ → Type 0) (at : ℕ) → bytes ≡ front ++ rest → IsWholeLines front → BeginsTag hash front
    → LeadsTag hash front Ends Allowed → IsStuck Allowed rest → (rest ≡ [] → Ends → ⊥) → at ≡ length front → IsNoTag hash bytes at
refused hash bytes front rest Ends Allowed at e lines begins leads stuck open_ place = record {
  none = λ t s. elim (leads rest t (subst (λ b. SpellsTag hash b t) e s)) [
    | inl p ↦ open_ p.0 p.1
    | inr p ↦ stuck p.0 p.1 p.2 p.3
  ];
  front = front;
  place = place;
  good = record { rest = rest; whole = e; lines = lines; begins = begins };
  longest = λ other w. elim (cases_lt (length front) (length other)) [
    | inr h ↦ h
    | inl h ↦
        let l = longer front other rest w.rest (sym e ∙ w.whole) (omega (arith, h)) in
        let spelled : SpellsTag hash (front ++ (l.more ++ w.begins.more)) w.begins.tag =
        subst (λ b. SpellsTag hash b w.begins.tag) (ap (λ o. o ++ w.begins.more) l.front ∙ append_assoc front l.more w.begins.more) w.begins.spells in
        let none = no_further Ends Allowed rest l.more w.rest w.begins.more stuck l.back (whole_behind front l.more (subst IsWholeLines l.front w.lines)) (leads (l.more ++ w.begins.more) w.begins.tag spelled) in
        omega (arith, ap length l.front, length-append front l.more, ap length none)
  ];
}
