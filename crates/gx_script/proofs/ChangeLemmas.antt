-- Lines among the edits.
use Rattle.std.proofs.Common.{◌≡◌, ◌≢◌, ◌∙◌, sym, ap, subst, ℕ, ◌≤◌, ◌<◌, List, [], ◌∷◌, ◌++◌, codes, arith}
use Rattle.std.specs.Fmt.{decimal}
use Rattle.std.proofs.lemmas.Fmt.{decimal_injective}
use Rattle.gx_edit.specs.declared.path_edit.PathEdit.{PathEdit}
use Rattle.gx_edit.specs.declared.path_edit.PathEdit.TheVariants.{File, Link, Module, Remove}
use Rattle.gx_hash.specs.HashKind.{kind_of}
use Rattle.gx_hash.specs.ObjectId.{hex_of, null_id}
use Rattle.gx_hash.specs.declared.kind.HashKind.{HashKind}
use Rattle.gx_hash.specs.declared.oid.ObjectId.{ObjectId}
use Rattle.gx_script.specs.declared.change.Change.{Change}
use Rattle.gx_script.specs.declared.change.Change.TheVariants as change
use Rattle.gx_script.specs.declared.change.PutKind.{PutKind}
use Rattle.gx_script.specs.declared.change.PutKind.TheVariants as put_kind
use Rattle.gx_script.specs.Changes.{IsNoPut, IsNoModule, SaysEdit, IsNoEdit}
use Rattle.gx_script.specs.Commits.{put_line, module_line, edit_items, IsEdit}
use Rattle.gx_script.specs.Fields.{IsId, end_line}
use Rattle.gx_script.specs.Grammar.{put_word, SaysChange, IsNo}
use Rattle.gx_script.specs.Items.{NoNewline, Line, block_limit, edit_limit}
use Rattle.gx_script.specs.Lines.{IsNoPair, IsPair, IsNoTriple, IsTriple, IsNoId, IsNoSize}
use Rattle.gx_script.proofs.FieldLemmas.{same_pair, SameThree, same_triple, put_space, size_space}
use Rattle.gx_script.proofs.IdLemmas.{same_id, hex_space}
use Rattle.gx_script.proofs.LineLemmas.{without_back}

pub no_module : (hash : HashKind) (line : List ℕ) → IsNoPair (codes "module ") line → IsNoModule hash line
no_module hash line none id path fits real e = none (hex_of id) path (hex_space hash id fits) e

pub no_module_id : (hash : HashKind) (line a b : List ℕ) → IsPair (codes "module ") line a b → IsNoId hash a → IsNoModule hash line
no_module_id hash line a b p none id path fits real e = none id fits (same_pair (codes "module ") line a b (hex_of id) path p (hex_space hash id fits) e).0

pub no_module_null : (hash : HashKind) (line a b : List ℕ) (found : ObjectId) → IsPair (codes "module ") line a b → IsId hash found → a ≡ hex_of found → found ≡ null_id (kind_of found) → IsNoModule hash line
no_module_null hash line a b found p h is null id path fits real e =
    let same : found ≡ id = same_id hash found id h fits (sym is ∙ (same_pair (codes "module ") line a b (hex_of id) path p (hex_space hash id fits) e).0) in
    real (sym same ∙ null ∙ ap null_id h.kind)

pub is_module : (hash : HashKind) (line a b : List ℕ) (id : ObjectId) → NoNewline line → IsPair (codes "module ") line a b → IsId hash id → a ≡ hex_of id → (id ≡ null_id (kind_of id) → ⊥) → SaysEdit hash (Module b id) line
is_module hash line a b id open_line p h is real =
    let e : line ≡ module_line id b = p.is ∙ ap (λ (l : List ℕ). codes "module " ++ (l ++ 32 ∷ b)) is in
    let tail : NoNewline (a ++ 32 ∷ b) = without_back 10 (codes "module ") (a ++ 32 ∷ b) (subst NoNewline p.is open_line) in
    ((h, (λ n. real (n ∙ ap null_id (sym h.kind))), (without_back 10 a (32 ∷ b) tail).1), ap (λ (l : List ℕ). Line l ∷ []) (sym e))

put_same : (line a b c : List ℕ) (kind : PutKind) (size : ℕ) (path : List ℕ) → IsTriple (codes "put ") line a b c → size ≤ block_limit → line ≡ put_line (put_word kind) size path → SameThree a b c (put_word kind) (decimal size) path
put_same line a b c kind size path p le e = same_triple (codes "put ") line a b c (put_word kind) (decimal size) path p (put_space kind) (size_space size le) e

pub no_put : (line : List ℕ) → IsNoTriple (codes "put ") line → IsNoPut line
no_put line none kind size path le e = none (put_word kind) (decimal size) path (put_space kind) (size_space size le) e

pub no_put_kind : (line a b c : List ℕ) → IsTriple (codes "put ") line a b c → ((kind : PutKind) → a ≡ put_word kind → ⊥) → IsNoPut line
no_put_kind line a b c p none kind size path le e = none kind (put_same line a b c kind size path p le e).first

pub no_put_size : (line a b c : List ℕ) → IsTriple (codes "put ") line a b c → IsNoSize b → IsNoPut line
no_put_size line a b c p none kind size path le e = none size le (put_same line a b c kind size path p le e).second

pub is_put : (line a b c : List ℕ) (kind : PutKind) (size : ℕ) → IsTriple (codes "put ") line a b c → a ≡ put_word kind → b ≡ decimal size → line ≡ put_line (put_word kind) size c
is_put line a b c kind size p e f = p.is ∙ ap (λ (l : List ℕ). codes "put " ++ (l ++ 32 ∷ (b ++ 32 ∷ c))) e ∙ ap (λ (l : List ℕ). codes "put " ++ (put_word kind ++ 32 ∷ (l ++ 32 ∷ c))) f

heads : (a b : ℕ) {x y : List ℕ} → a ∷ x ≡ b ∷ y → a ≡ b
heads a b e = cc

no_module_put : (word digits : List ℕ) (size : ℕ) (path line : List ℕ) → line ≡ put_line word size path → (id : ObjectId) (other : List ℕ) → line ≡ module_line id other → ⊥
no_module_put word digits size path line e id other f = let h : 112 ≡ 109 = heads 112 109 (sym e ∙ f) in omega (arith, h)

no_drop_put : (word : List ℕ) (size : ℕ) (path line : List ℕ) → line ≡ put_line word size path → (other : List ℕ) → line ≡ codes "drop " ++ other → ⊥
no_drop_put word size path line e other f = let h : 112 ≡ 100 = heads 112 100 (sym e ∙ f) in omega (arith, h)

-- A put for which there is no room.
pub no_put_room : (hash : HashKind) (room : ℕ) (line : List ℕ) (kind : PutKind) (size : ℕ) (path : List ℕ) → line ≡ put_line (put_word kind) size path → size ≤ block_limit → room < size → IsNoEdit hash room line
no_put_room hash room line kind size path e le full = record {
  put = λ other n p small fits f.
      let same = same_triple (codes "put ") line (put_word kind) (decimal size) path (put_word other) (decimal n) p (record { is = e; whole = put_space kind; also = size_space size le }) (put_space other) (size_space n small) f in
      let sizes : size ≡ n = decimal_injective size n (omega arith) (omega arith) same.second in
      omega (arith, sizes, fits, full);
  whole = λ id p fits real f. no_module_put (put_word kind) [] size path line e id p f;
  drop = λ p f. no_drop_put (put_word kind) size path line e p f;
}

pub put_says : (hash : HashKind) (room : ℕ) (line : List ℕ) (kind : PutKind) (size : ℕ) (path : List ℕ) → NoNewline line → line ≡ put_line (put_word kind) size path → size ≤ block_limit → size ≤ room → SaysChange hash 0 room (change.Put kind size path) line
put_says hash room line kind size path open_line e le fits =
    let one : NoNewline (put_word kind ++ 32 ∷ (decimal size ++ 32 ∷ path)) = without_back 10 (codes "put ") (put_word kind ++ 32 ∷ (decimal size ++ 32 ∷ path)) (subst NoNewline e open_line) in
    let two : NoNewline (decimal size ++ 32 ∷ path) = (without_back 10 (put_word kind) (32 ∷ (decimal size ++ 32 ∷ path)) one).1 in
    (omega arith, le, fits, (without_back 10 (decimal size) (32 ∷ path) two).1, e)

-- After fewer edits than the limit a line says what it says after none.
pub edit_says : (hash : HashKind) (count room : ℕ) (next : Change) (line : List ℕ) → count < edit_limit → SaysChange hash 0 room next line → SaysChange hash count room next line
edit_says hash count room (change.Put kind size path) line few s = (few, s.1, s.2, s.3, s.4)
edit_says hash count room (change.Whole edit) line few s = (few, s.1, s.2)
edit_says hash count room change.End line few s = s

no_whole : (hash : HashKind) (room : ℕ) (line : List ℕ) (edit : PathEdit) → IsNoEdit hash room line → IsEdit hash edit → edit_items edit ≡ Line line ∷ [] → ⊥
no_whole hash room line (File path bytes x) none fits e = cc
no_whole hash room line (Link path bytes) none fits e = cc
no_whole hash room line (Module path id) none fits e = let h : module_line id path ≡ line = cc in none.whole id path fits.0 fits.1 (sym h)
no_whole hash room line (Remove path) none fits e = let h : codes "drop " ++ path ≡ line = cc in none.drop path (sym h)

pub no_change : (hash : HashKind) (count room : ℕ) (line : List ℕ) → line ≢ end_line → IsNoEdit hash room line → IsNo (SaysChange hash count room) line
no_change hash count room line other none (change.Put kind size path) s = none.put kind size path s.1 s.2 s.4
no_change hash count room line other none (change.Whole edit) s = no_whole hash room line edit none s.1 s.2
no_change hash count room line other none change.End s = other s
