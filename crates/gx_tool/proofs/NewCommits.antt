-- In a new repository each commit of the generator is valid, and an accepted one leads to a state in which the next is.
use Rattle.std.proofs.Common.{◌≡◌, ◌∙◌, sym, ap, refl, subst, arith, ℕ, zero, suc, ◌+◌, ◌≤◌, ◌<◌, ◌%◌, ◌/◌, Bool, true, false, not, ◌&&◌, List, [], ◌∷◌, ◌++◌, decimal, nat_eq, Option, Some, None, IfSome, IsSome, is_some, Ok, Contains}
use Rattle.std.specs.List.{AllByRecursion}
use Rattle.std.proofs.Math.Nat.{mod-lt}
use Rattle.gx_hash.specs.declared.kind.HashKind.{HashKind}
use Rattle.gx_hash.specs.declared.oid.ObjectId.{ObjectId}
use Rattle.gx_hash.specs.Laws.{computed_digits, object_id_is_whole}
use Rattle.gx_rules.specs.declared.component_error.ComponentError.TheVariants as rule
use Rattle.gx_rules.specs.declared.component_rules.Protect.{Protect}
use Rattle.gx_object.specs.declared.kind.Kind.{Kind}
use Rattle.gx_object.specs.declared.kind.Kind.TheVariants as kind
use Rattle.gx_object.specs.Kind.{kind_name}
use Rattle.gx_object.specs.Mode.{kind_of_mode}
use Rattle.gx_object.specs.WrittenText.{HasSeconds}
use Rattle.gx_store.specs.State.{RefState}
use Rattle.gx_store.specs.Content.{Content, Adds, AreApart, IsStored, lookup}
use Rattle.gx_store.specs.Laws.{FoundStays}
use Rattle.gx_edit.specs.Entries.{is_link_kind}
use Rattle.gx_edit.specs.Output.{Output}
use Rattle.gx_edit.specs.Path.{Path, components}
use Rattle.gx_edit.specs.PathList.{has_empty_name}
use Rattle.gx_edit.specs.PathMap.{PathMap, blob_id, edited, file_mode}
use Rattle.gx_edit.specs.declared.leaf.Leaf.{Leaf}
use Rattle.gx_edit.specs.declared.path_edit.PathEdit.TheVariants.{File}
use Rattle.gx_refs.specs.EditCauses.{AreMade, MayBeMade}
use Rattle.gx_refs.specs.EditLaws.{OnePlan}
use Rattle.gx_refs.specs.Shown.{prefix_of}
use Rattle.gx_refs.specs.declared.edit.RefEdit.{RefEdit}
use Rattle.gx_refs.specs.declared.log.WriteReflog.{WriteReflog}
use Rattle.gx_refs.specs.declared.terms.Terms.{Terms}
use Rattle.gix.specs.Admission.{AreComponents, HasSafePaths, IsValidCommit}
use Rattle.gix.specs.Base.{IsBase, IsMapOf}
use Rattle.gix.specs.CommitEdits.{written_objects}
use Rattle.gix.specs.CommitRequest.{CommitRequest, HaveModuleIds}
use Rattle.gix.specs.Held.{Whole}
use Rattle.gix.specs.History.{ByParent, Call, CallStep, HasWholeId, History, IsEmpty, IsLine, IsWholeId, Premises, line_map}
use Rattle.gix.specs.Log.{commit_log_message}
use Rattle.gix.specs.Machine.{Accepts}
use Rattle.gix.specs.NewCommit.{commit_id, commit_text}
use Rattle.gix.specs.Reference.{commit_terms, edits_of}
use Rattle.gix.specs.Trees.{Makes, have_names}
use Rattle.gix.specs.View.{State, whole}
use Rattle.gix.specs.declared.settings.Settings.{Settings}
use Rattle.gx_script.specs.declared.request.Request.TheVariants.{Commit}
use Rattle.gx_tool.specs.CommitForm.{commit_request}
use Rattle.gx_tool.specs.Completeness.{AreValidCommits, IsValid}
use Rattle.gx_tool.specs.Generator.{commit_at, drop_at, dropped_path, edits_at, file_path, number_at, parents_of, place_line, message_at, who_at}
use Rattle.gx_tool.specs.Machine.{Step}
use Rattle.gx_tool.specs.Serving.{call_of}
use Rattle.gx_tool.specs.Unborn.{HasOwnIds, HaveOwnIds, IsNew}
use Rattle.gx_tool.specs.declared.answer.Answer.TheVariants.{Id}
use Rattle.gx_tool.specs.declared.reply.Reply.TheVariants.{Accepted}
use Rattle.gx_tool.proofs.GeneratedNames.{IsFit, file_fits, inner_fits, top_fits}
use Rattle.gx_tool.proofs.GeneratedPaths.{OfAll, put_alone, put_and_dropped, three_names, two_names}
use Rattle.gx_tool.proofs.UnbornLemmas.{LeadsOn, edit_over, may_move, moves_on}

-- ---- paths

-- a path of the generator's files
record IsDrawn (p : Path) : Type 0 where
  top : ℕ
  inner : ℕ
  file : ℕ
  top_small : top < 10
  inner_small : inner < 10
  file_small : file < 100
  is : p ≡ (100 ∷ decimal top) ∷ (101 ∷ decimal inner) ∷ (102 ∷ decimal file) ∷ []

plain : Protect
plain = record { hfs = false; ntfs = false; windows = false }

no_slash : (name : List ℕ) → IsFit plain name → Contains name 47 → ⊥
no_slash name fit c = fit.0 rule.PathSeparator c

ten : (n : ℕ) → n % 10 < 10
ten n = mod-lt n (omega arith)

hundred : (n : ℕ) → n % 100 < 100
hundred n = mod-lt n (omega arith)

file_parts : (a b c : ℕ) → a < 10 → b < 10 → c < 100 → components ((100 ∷ decimal a ++ (47 ∷ 101 ∷ decimal b)) ++ (47 ∷ 102 ∷ decimal c)) ≡ (100 ∷ decimal a) ∷ (101 ∷ decimal b) ∷ (102 ∷ decimal c) ∷ []
file_parts a b c h k l = three_names (100 ∷ decimal a) (101 ∷ decimal b) (102 ∷ decimal c) (no_slash _ (top_fits plain a h)) (no_slash _ (inner_fits plain b k)) (no_slash _ (file_fits plain c l))

folder_parts : (a b : ℕ) → a < 10 → b < 10 → components (100 ∷ decimal a ++ (47 ∷ 101 ∷ decimal b)) ≡ (100 ∷ decimal a) ∷ (101 ∷ decimal b) ∷ []
folder_parts a b h k = two_names (100 ∷ decimal a) (101 ∷ decimal b) (no_slash _ (top_fits plain a h)) (no_slash _ (inner_fits plain b k))

drawn : (number : ℕ) → IsDrawn (components (file_path number))
drawn number = record {
  top = number % 10;
  inner = number / 10 % 10;
  file = number / 100 % 100;
  top_small = ten number;
  inner_small = ten (number / 10);
  file_small = hundred (number / 100);
  is = file_parts (number % 10) (number / 10 % 10) (number / 100 % 100) (ten number) (ten (number / 10)) (hundred (number / 100));
}

fit_components : (protect : Protect) (p : Path) → IsDrawn p → AreComponents protect false p
fit_components protect p d = subst (λ (q : Path). AreComponents protect false q) (sym d.is)
    (let one = top_fits protect d.top d.top_small in let two = inner_fits protect d.inner d.inner_small in let three = file_fits protect d.file d.file_small in
    (one.0, one.1, (two.0, two.1, three)))

-- the edits of a commit have whole paths
named : (place number : ℕ) → have_names (edits_at place number) ≡ true
named place number = go (nat_eq (place % 7) 0)
  where
    file : not (has_empty_name (components (file_path number))) ≡ true
    file = ap (λ (p : Path). not (has_empty_name p)) (drawn number).is

    folder : not (has_empty_name (components (dropped_path number))) ≡ true
    folder = ap (λ (p : Path). not (has_empty_name p)) (folder_parts (number % 10) ((number / 10 % 10 + 1) % 10) (ten number) (ten (number / 10 % 10 + 1)))

    both : (s t : Bool) → s ≡ true → t ≡ true → (s && t) ≡ true
    both true t h e = e
    both false t h e = absurd cc

    go : (t : Bool) → have_names (File (file_path number) (place_line place) false ∷ drop_at t number) ≡ true
    go true = both _ _ file (both _ _ folder refl)
    go false = both _ _ file refl

-- ---- maps

-- what each leaf of the generator's maps is: a file at a drawn path
record IsFile (p : Path) (leaf : Leaf) : Type 0 where
  at : IsDrawn p
  mode : leaf.mode.value ≡ file_mode false

edits_keep : (P : Path → Leaf → Type 0) (hash : HashKind) (m : PathMap) (place number : ℕ) → OfAll P m
    → P (components (file_path number)) (record { mode = record { value = file_mode false }; id = blob_id hash (place_line place) }) → OfAll P (edited hash m (edits_at place number))
edits_keep P hash m place number all new = go (nat_eq (place % 7) 0)
  where
    go : (t : Bool) → OfAll P (edited hash m (File (file_path number) (place_line place) false ∷ drop_at t number))
    go true = put_and_dropped P hash m (file_path number) (place_line place) (dropped_path number) all new
    go false = put_alone P hash m (file_path number) (place_line place) all new

files_keep : (hash : HashKind) (m : PathMap) (place number : ℕ) → OfAll IsFile m → OfAll IsFile (edited hash m (edits_at place number))
files_keep hash m place number all = edits_keep IsFile hash m place number all (record { at = drawn number; mode = refl })

-- what each leaf names is stored
abbrev IsThere : Content → Path → Leaf → Type 0
IsThere content p leaf = IsStored content leaf.id

some_stays : {X : Type 0} (o n : Option X) → IfSome o (λ x. n ≡ Some x) → IsSome o → IsSome n
some_stays None n h s = absurd cc
some_stays (Some x) n h s = ap is_some h

stored_stays : FoundStays → (hash : HashKind) (objects : List (Kind × List ℕ)) (old new : Content) → AreApart hash old objects → Adds hash objects old new → (m : PathMap) → OfAll (IsThere old) m → OfAll (IsThere new) m
stored_stays found hash objects old new apart adds m all p leaf at = some_stays (lookup old leaf.id) (lookup new leaf.id) (found hash objects old new apart adds leaf.id) (all p leaf at)

-- ---- histories

history_more : (settings : Settings) (calls : List Call) (start mid end : State) (call : Call) → History settings start calls mid → ((output : Output) → Makes call.request (whole mid) output → Premises call.request mid output) → CallStep settings call mid end
    → History settings start (calls ++ call ∷ []) end
history_more settings [] start mid end call h premises step =
    (end, subst (λ (s : State). (output : Output) → Makes call.request (whole s) output → Premises call.request s output) h premises, subst (λ (s : State). CallStep settings call s end) h step, refl)
history_more settings (one ∷ calls) start mid end call h premises step = (h.0, h.1, h.2, history_more settings calls h.0 mid end call h.3 premises step)

before_last : {X : Type 0} (xs : List X) (x y : X) → Contains xs y → Contains (xs ++ x ∷ []) y
before_last [] x y (k, less, is) = absurd (omega (arith, less))
before_last (z ∷ xs) x y (zero, less, is) = (0, omega arith, is)
before_last (z ∷ xs) x y (suc k, less, is) = let c = before_last xs x y (k, omega (arith, less), is) in (suc c.0, (let within = c.1 in omega arith), c.2)

last_in : {X : Type 0} (xs : List X) (x : X) → Contains (xs ++ x ∷ []) x
last_in [] x = (0, omega arith, refl)
last_in (z ∷ xs) x = let c = last_in xs x in (suc c.0, (let within = c.1 in omega arith), c.2)

by_parent : (parents : List ObjectId) (A : Type 0) (P Q : ObjectId → Type 0) → ((parent : ObjectId) → P parent → Q parent) → ByParent parents A P → ByParent parents A Q
by_parent [] A P Q f h = h
by_parent (parent ∷ parents) A P Q f h = f parent h

line_longer : (calls : List Call) (call : Call) (line : List CommitRequest) (id : ObjectId) → IsLine calls id line → IsLine (calls ++ call ∷ []) id line
line_longer calls call [] id h = h
line_longer calls call (r ∷ line) id h = (
  record { call = h.0.call; among = before_last calls call h.0.call h.0.among; requested = h.0.requested; left = h.0.left },
  by_parent r.parents (line ≡ []) (λ parent. IsLine calls parent line) (λ parent. IsLine (calls ++ call ∷ []) parent line) (λ parent. line_longer calls call line parent) h.1,
)

-- the first-parent line of the last commit, if there is one
abbrev HasLine : List Call → Option ObjectId → List CommitRequest → Type 0
HasLine calls None line = line ≡ []
HasLine calls (Some id) line = IsLine calls id line

line_on : (calls : List Call) (call : Call) (last : Option ObjectId) (line : List CommitRequest) → HasLine calls last line → ByParent (parents_of last) (line ≡ []) (λ parent. IsLine (calls ++ call ∷ []) parent line)
line_on calls call None line h = h
line_on calls call (Some id) line h = line_longer calls call line id h

-- ---- the reference

abbrev asked : ℕ → Option ObjectId → CommitRequest
asked place last = commit_request (commit_at place last)

abbrev terms_at : Option (List ℕ) → WriteReflog → ℕ → Terms
terms_at space mode place = record { space = prefix_of space; mode = mode; committer = Some (who_at place) }

told_at : ℕ → Option ObjectId → List ℕ
told_at place last = commit_log_message (parents_of last) (message_at place)

same_edit : (place : ℕ) (last : Option ObjectId) (id : ObjectId) → edits_of (asked place last) id ≡ edit_over (told_at place last) last id ∷ []
unfolding told_at
same_edit place None id = refl
same_edit place (Some parent) id = refl

may_be_made : (settings : Settings) (refs : RefState) (place : ℕ) (last : Option ObjectId) → settings.namespace ≡ None → LeadsOn refs last → (id : ObjectId) → MayBeMade (commit_terms settings (asked place last)) (Some refs) (edits_of (asked place last) id)
may_be_made settings refs place last space h id =
    subst (λ (s : Option (List ℕ)). MayBeMade (terms_at s settings.log_mode place) (Some refs) (edits_of (asked place last) id)) (sym space)
    (subst (λ (edits : List RefEdit). MayBeMade (terms_at None settings.log_mode place) (Some refs) edits) (sym (same_edit place last id))
    (may_move settings.log_mode (who_at place) refl (told_at place last) id refs last h))

leads_after : OnePlan → (settings : Settings) (refs new : RefState) (place : ℕ) (last : Option ObjectId) → settings.namespace ≡ None → LeadsOn refs last → (id : ObjectId) → AreMade (commit_terms settings (asked place last)) (edits_of (asked place last) id) refs new → LeadsOn new (Some id)
leads_after one settings refs new place last space h id made =
    moves_on settings.log_mode (who_at place) refl (told_at place last) id refs last new one h
    (subst (λ (edits : List RefEdit). AreMade (terms_at None settings.log_mode place) edits refs new) (same_edit place last id)
    (subst (λ (s : Option (List ℕ)). AreMade (terms_at s settings.log_mode place) (edits_of (asked place last) id) refs new) space made))

-- ---- what is known after some commits

record Known (start old : Whole) (last : Option ObjectId) : Type 0 where
  settings : old.settings ≡ start.settings
  refs : LeadsOn old.state.references last
  calls : List Call
  history : History start.settings start.state calls old.state
  parents : AllByRecursion (IsWholeId old.state.hash) (parents_of last)
  line : List CommitRequest
  has_line : HasLine calls last line
  files : OfAll IsFile (line_map old.state.hash line)
  there : OfAll (IsThere old.state.content) (line_map old.state.hash line)

no_leaf : (leaf : Leaf) → ◌≡◌ {A = Option Leaf} None (Some leaf) → ⊥
no_leaf leaf e = cc

at_first : (start : Whole) → IsNew start → Known start start None
at_first start new = record {
  settings = refl;
  refs = record { leads = new.head; found = new.unborn; free = λ e. new.free };
  calls = [];
  history = refl;
  parents = tt;
  line = [];
  has_line = refl;
  files = λ p leaf at. absurd (no_leaf leaf at);
  there = λ p leaf at. absurd (no_leaf leaf at);
}

-- each first-parent line gives the map of its commit
abbrev pub EachLine : Type 0
EachLine = (settings : Settings) (start end : State) (calls : List Call) → IsEmpty start → History settings start calls end → (id : ObjectId) (line : List CommitRequest) → IsLine calls id line → IsMapOf end.hash end.content id (line_map end.hash line)

is_base : EachLine → (start old : Whole) (last : Option ObjectId) → IsNew start → (k : Known start old last) → IsBase (whole old.state) (parents_of last) (line_map old.state.hash k.line)
is_base each start old None new k = ap (λ l. line_map old.state.hash l) k.has_line
is_base each start old (Some id) new k = each start.settings start.state old.state k.calls new.no_objects k.history id k.line k.has_line

safe_paths : (protect : Protect) (m : PathMap) → OfAll IsFile m → HasSafePaths protect m
safe_paths protect m all p leaf at =
    let f = all p leaf at in
    let no_link : is_link_kind (kind_of_mode leaf.mode.value) ≡ false = ap (λ n. is_link_kind (kind_of_mode n)) f.mode in
    subst (λ (t : Bool). AreComponents protect t p) (sym no_link) (fit_components protect p f.at)

no_space_in : (start old : Whole) (last : Option ObjectId) → IsNew start → Known start old last → old.settings.namespace ≡ None
no_space_in start old last new k = ap (λ (s : Settings). s.namespace) k.settings ∙ new.no_space

valid : EachLine → (start old : Whole) (place : ℕ) (last : Option ObjectId) → IsNew start → Known start old last → IsValidCommit old.settings (asked place last) old.state
valid each start old place last new k = record {
  new_map = edited old.state.hash (line_map old.state.hash k.line) (edits_at place (number_at place));
  edits = record { base = line_map old.state.hash k.line; is_base = is_base each start old last new k; named = named place (number_at place); is_map = refl };
  leaves = λ p leaf at other. k.there p leaf at;
  paths = safe_paths old.settings.protect (edited old.state.hash (line_map old.state.hash k.line) (edits_at place (number_at place))) (files_keep old.state.hash (line_map old.state.hash k.line) place (number_at place) k.files);
  identities = (refl, refl);
  reference = λ id. may_be_made old.settings old.state.references place last (no_space_in start old last new k) k.refs id;
}

-- ---- an accepted commit

no_modules : (hash : HashKind) (place number : ℕ) → AllByRecursion (HasWholeId hash) (edits_at place number)
no_modules hash place number = go (nat_eq (place % 7) 0)
  where
    go : (t : Bool) → AllByRecursion (HasWholeId hash) (File (file_path number) (place_line place) false ∷ drop_at t number)
    go true = (tt, (tt, tt))
    go false = (tt, tt)

no_module_ids : (place number : ℕ) → HaveModuleIds (edits_at place number)
no_module_ids place number = go (nat_eq (place % 7) 0)
  where
    go : (t : Bool) → HaveModuleIds (File (file_path number) (place_line place) false ∷ drop_at t number)
    go true = (tt, (tt, tt))
    go false = (tt, tt)

in_64_bits : (place : ℕ) → place ≤ 20000 → HasSeconds (who_at place).time
in_64_bits place small = let few : 1000 + place < 9223372036854775808 = omega (arith, small) in record { sfits = few }

premises : (start old : Whole) (place : ℕ) (last : Option ObjectId) → place ≤ 20000 → Known start old last → HasOwnIds old (commit_at place last) → (output : Output) → Makes (asked place last) (whole old.state) output → Premises (asked place last) old.state output
premises start old place last small k own output makes = record {
  ids = own output makes;
  parents = k.parents;
  modules = no_modules old.state.hash place (number_at place);
  named = no_module_ids place (number_at place);
  author = in_64_bits place small;
  committer = in_64_bits place small;
}

same_answer : (one other : ObjectId) → Id one ≡ Id other → one ≡ other
same_answer one other e = cc

accepts : (old next : Whole) (place : ℕ) (last : Option ObjectId) (id : ObjectId) → Step old (Commit (commit_at place last)) (Accepted (Id id)) next → Accepts old.settings (asked place last) old.state id next.state × (next.settings ≡ old.settings)
unfolding Step call_of
accepts old next place last id step = (subst (λ i. Accepts old.settings (asked place last) old.state i next.state) (sym (same_answer id step.made step.told)) step.accepts, step.settles)

module _ (found : FoundStays) (one : OnePlan) (start old next : Whole) (place : ℕ) (last : Option ObjectId) (id : ObjectId) (new : IsNew start) (small : place ≤ 20000) (k : Known start old last) (own : HasOwnIds old (commit_at place last)) (a : Accepts old.settings (asked place last) old.state id next.state) (same : next.settings ≡ old.settings) where
  abbrev call : Call
  call = record { request = asked place last; answer = Ok id; stored = Some id }

  abbrev map_before : PathMap
  map_before = line_map old.state.hash k.line

  apart : AreApart old.state.hash old.state.content (written_objects (asked place last) a.output)
  apart = own a.output a.admitted.objects.trees.makes

  step_on : CallStep start.settings call old.state next.state
  step_on = record { hash = a.hash; left = (refl, subst (λ (s : Settings). Accepts s (asked place last) old.state id next.state) k.settings a) }

  whole_id : IsWholeId next.state.hash id
  whole_id =
      let made : IsWholeId old.state.hash (commit_id old.state.hash (asked place last) a.output) = record { bytes = object_id_is_whole old.state.hash (kind_name kind.Commit) (commit_text (asked place last) a.output); digits = computed_digits old.state.hash (kind_name kind.Commit) (commit_text (asked place last) a.output) } in
      subst (λ (h : HashKind). IsWholeId h id) (sym a.hash) (subst (λ (i : ObjectId). IsWholeId old.state.hash i) (sym a.is_id) made)

  there_after : OfAll (IsThere next.state.content) (edited old.state.hash map_before (edits_at place (number_at place)))
  there_after =
      let held = a.stored apart in
      edits_keep (IsThere next.state.content) old.state.hash map_before place (number_at place)
      (stored_stays found old.state.hash (written_objects (asked place last) a.output) old.state.content next.state.content apart a.adds map_before k.there)
      (ap is_some held.0)

  after_step : Known start next (Some id)
  after_step = record {
    settings = same ∙ k.settings;
    refs = leads_after one old.settings old.state.references next.state.references place last (no_space_in start old last new k) k.refs id a.references;
    calls = k.calls ++ call ∷ [];
    history = history_more start.settings k.calls start.state old.state next.state call k.history (premises start old place last small k own) step_on;
    parents = (whole_id, tt);
    line = asked place last ∷ k.line;
    has_line = (record { call = call; among = last_in k.calls call; requested = refl; left = refl }, line_on k.calls call last k.line k.has_line);
    files = subst (λ (h : HashKind). OfAll IsFile (line_map h (asked place last ∷ k.line))) (sym a.hash) (files_keep old.state.hash map_before place (number_at place) k.files);
    there = subst (λ (h : HashKind). OfAll (IsThere next.state.content) (line_map h (asked place last ∷ k.line))) (sym a.hash) there_after;
  }

-- ---- a run

is_valid : EachLine → (start old : Whole) (place : ℕ) (last : Option ObjectId) → IsNew start → Known start old last → IsValid old (Commit (commit_at place last))
unfolding IsValid call_of
is_valid each start old place last new k = valid each start old place last new k

along : FoundStays → OnePlan → EachLine → (count : ℕ) (start old : Whole) (place : ℕ) (last : Option ObjectId) → place + count ≤ 20001 → IsNew start → Known start old last → HaveOwnIds count old place last → AreValidCommits count old place last
unfolding AreValidCommits HaveOwnIds
along found one each zero start old place last small new k own = tt
along found one each (suc count) start old place last small new k own = (
  is_valid each start old place last new k,
  λ id next step.
      let a = accepts old next place last id step in
      let here : place ≤ 20000 = omega (arith, small) in
      let later : suc place + count ≤ 20001 = omega (arith, small) in
      along found one each count start next (suc place) (Some id) later new (after_step found one start old next place last id new here k own.0 a.0 a.1) (own.1 id next step),
)

pub new_commits : FoundStays → OnePlan → EachLine → (count : ℕ) (start : Whole) → count ≤ 20000 → IsNew start → HaveOwnIds count start 1 None → AreValidCommits count start 1 None
new_commits found one each count start small new own = along found one each count start start 1 None (omega (arith, small)) new (at_first start new) own
