-- Lines that end in a list of fields: walks, bases, and the notes that are asked for.
use Rattle.std.proofs.Common.{◌≡◌, ◌∙◌, sym, ap, refl, subst, ℕ, ◌+◌, List, [], ◌∷◌, ◌++◌, length, map, codes, arith}
use Rattle.std.proofs.lemmas.List.{append_cancel_left}
use Rattle.gx_hash.specs.ObjectId.{hex_of}
use Rattle.gx_hash.specs.declared.kind.HashKind.{HashKind}
use Rattle.gx_hash.specs.declared.oid.ObjectId.{ObjectId}
use Rattle.gx_script.specs.declared.lists.WalkId.{WalkId}
use Rattle.gx_script.specs.declared.request.Order.{Order}
use Rattle.gx_script.specs.Fields.{IsId, order_text, walk_id_text}
use Rattle.gx_script.specs.History.{walk_line, IsWalk, bases_line, IsBases}
use Rattle.gx_script.specs.Items.{Without, NoNewline, IsField, spaced, id_limit}
use Rattle.gx_script.specs.Lines.{CutsField, IsTail, IsNoOrder, IsNoId, AreSpaced, AreNotSpaced, IsNoWalk, IsNoBases, IsNoNoteGet}
use Rattle.gx_script.specs.Notes.{note_get_line, IsNoteGet}
use Rattle.gx_script.proofs.FieldLemmas.{order_space}
use Rattle.gx_script.proofs.IdLemmas.{hex_space}
use Rattle.gx_script.proofs.LineLemmas.{without_back}
use Rattle.gx_script.proofs.SpacedLemmas.{same_cut, spaced_tail, spaced_long, same_fields}

-- The first field after a word, and the fields after it.
cut_same : (word line fields field rest first more : List ℕ) → line ≡ word ++ fields → CutsField fields field rest → Without 32 first → IsTail more → line ≡ word ++ 32 ∷ (first ++ more) → (field ≡ first) × (rest ≡ more)
cut_same word line fields field rest first more is cut whole tail e =
    let behind : fields ≡ 32 ∷ (first ++ more) = append_cancel_left word fields (32 ∷ (first ++ more)) (sym is ∙ e) in
    let both : 32 ∷ (field ++ rest) ≡ 32 ∷ (first ++ more) = sym cut.is ∙ behind in
    let same : field ++ rest ≡ first ++ more = cc in
    same_cut field first rest more cut.whole whole cut.tail tail same

-- Walks.
walk_same : (hash : HashKind) (line fields field rest : List ℕ) (order : Order) (ids : List WalkId) → line ≡ codes "walk" ++ fields → CutsField fields field rest → IsWalk hash order ids → line ≡ walk_line order ids → (field ≡ order_text order) × (rest ≡ spaced (map walk_id_text ids))
walk_same hash line fields field rest order ids is cut fits e = cut_same (codes "walk") line fields field rest (order_text order) (spaced (map walk_id_text ids)) is cut (order_space order fits.order_fits) (spaced_tail walk_id_text ids) e

pub no_walk_order : (hash : HashKind) (line fields field rest : List ℕ) → line ≡ codes "walk" ++ fields → CutsField fields field rest → IsNoOrder field → IsNoWalk hash line
no_walk_order hash line fields field rest is cut none order ids fits e = none order fits.order_fits (walk_same hash line fields field rest order ids is cut fits e).0

pub no_walk_ids : (hash : HashKind) (line fields field rest : List ℕ) → line ≡ codes "walk" ++ fields → CutsField fields field rest → AreNotSpaced walk_id_text (λ (walked : WalkId). IsId hash walked.id) id_limit rest → IsNoWalk hash line
no_walk_ids hash line fields field rest is cut none order ids fits e = none ids (record { is = (walk_same hash line fields field rest order ids is cut fits e).1; fits = fits.kind; few = fits.few })

pub no_walk_empty : (hash : HashKind) (line fields field rest : List ℕ) (found : List WalkId) → line ≡ codes "walk" ++ fields → CutsField fields field rest → AreSpaced walk_id_text (λ (walked : WalkId). IsId hash walked.id) id_limit rest found → length found ≡ 0 → IsNoWalk hash line
no_walk_empty hash line fields field rest [] is cut all none order [] fits e = fits.some refl
no_walk_empty hash line fields field rest [] is cut all none order (x ∷ ids) fits e =
    let same : [] ≡ 32 ∷ (walk_id_text x ++ spaced (map walk_id_text ids)) = sym all.is ∙ (walk_same hash line fields field rest order (x ∷ ids) is cut fits e).1 in
    cc
no_walk_empty hash line fields field rest (y ∷ found) is cut all none order ids fits e = absurd (omega arith)

-- Bases.
bases_same : (hash : HashKind) (line fields field rest : List ℕ) (first : ObjectId) (others : List ObjectId) → line ≡ codes "bases" ++ fields → CutsField fields field rest → IsBases hash first others → line ≡ bases_line first others → (field ≡ hex_of first) × (rest ≡ spaced (map hex_of others))
bases_same hash line fields field rest first others is cut fits e = cut_same (codes "bases") line fields field rest (hex_of first) (spaced (map hex_of others)) is cut (hex_space hash first fits.first_kind) (spaced_tail hex_of others) e

pub no_bases_first : (hash : HashKind) (line fields field rest : List ℕ) → line ≡ codes "bases" ++ fields → CutsField fields field rest → IsNoId hash field → IsNoBases hash line
no_bases_first hash line fields field rest is cut none first others fits e = none first fits.first_kind (bases_same hash line fields field rest first others is cut fits e).0

pub no_bases_others : (hash : HashKind) (line fields field rest : List ℕ) (most : ℕ) → line ≡ codes "bases" ++ fields → CutsField fields field rest → 1 + most ≡ id_limit → AreNotSpaced hex_of (IsId hash) most rest → IsNoBases hash line
no_bases_others hash line fields field rest most is cut one none first others fits e = none others (record { is = (bases_same hash line fields field rest first others is cut fits e).1; fits = fits.kind; few = omega (arith, fits.few, one) })

-- Notes that are asked for.
patterns_tail : (patterns : List (List ℕ)) → IsTail (spaced patterns)
patterns_tail [] = tt
patterns_tail (x ∷ xs) = refl

get_same : (hash : HashKind) (line fields field rest : List ℕ) (object : ObjectId) (patterns : List (List ℕ)) → line ≡ codes "note-get" ++ fields → CutsField fields field rest → IsNoteGet hash object patterns → line ≡ note_get_line object patterns → (field ≡ hex_of object) × (rest ≡ spaced patterns)
get_same hash line fields field rest object patterns is cut fits e = cut_same (codes "note-get") line fields field rest (hex_of object) (spaced patterns) is cut (hex_space hash object fits.0) (patterns_tail patterns) e

pub no_get_object : (hash : HashKind) (line fields field rest : List ℕ) → line ≡ codes "note-get" ++ fields → CutsField fields field rest → IsNoId hash field → IsNoNoteGet hash line
no_get_object hash line fields field rest is cut none object patterns fits e = none object fits.0 (get_same hash line fields field rest object patterns is cut fits e).0

pub rest_open : (line fields field rest : List ℕ) → NoNewline line → line ≡ codes "note-get" ++ fields → CutsField fields field rest → NoNewline rest
rest_open line fields field rest open_line is cut =
    let behind : NoNewline fields = without_back 10 (codes "note-get") fields (subst NoNewline is open_line) in
    let both : NoNewline (32 ∷ (field ++ rest)) = subst NoNewline cut.is behind in
    without_back 10 field rest both.1

as_fields : (patterns : List (List ℕ)) → spaced (map (λ (f : List ℕ). f) patterns) ≡ spaced patterns
as_fields patterns = ap spaced (same_fields patterns)

pub no_get_patterns : (hash : HashKind) (line fields field rest : List ℕ) → line ≡ codes "note-get" ++ fields → CutsField fields field rest → AreNotSpaced (λ (f : List ℕ). f) IsField (length rest) rest → IsNoNoteGet hash line
no_get_patterns hash line fields field rest is cut none object patterns fits e =
    let same : rest ≡ spaced (map (λ (f : List ℕ). f) patterns) = (get_same hash line fields field rest object patterns is cut fits e).1 ∙ sym (as_fields patterns) in
    none patterns (record { is = same; fits = fits.1; few = omega (arith, ap length same, spaced_long (λ (f : List ℕ). f) patterns) })
