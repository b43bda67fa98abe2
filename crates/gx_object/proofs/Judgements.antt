-- All bytes spell an object of a kind, or go wrong at one place.
use Rattle.std.proofs.Common.{◌≡◌, ◌⊎◌, inl, inr, ℕ, List, arith, Result, Ok, Err, IfOk}
use Rattle.std.specs.Prelude.{IfErr}
use Rattle.bstr.specs.BStr.{bstr_bytes}
use Rattle.bstr.specs.declared.bstr.BStr.{BStr}
use Rattle.gx_hash.specs.declared.kind.HashKind.{HashKind}
use Rattle.gx_object.specs.declared.decode.DecodeError.{DecodeError}
use Rattle.gx_object.specs.declared.tag.decode.TagRef.{TagRef}
use Rattle.gx_object.specs.CommitItems.{SpellsMessage, SpellsNone}
use Rattle.gx_object.specs.CommitSpelling.{CommitText, SpellsCommit, IsNoCommit}
use Rattle.gx_object.specs.PartsRead.{ObjectText}
use Rattle.gx_object.specs.TagSpelling.{TagText, tag_text, SpellsTag, IsNoTag, RefusesTag}

pub commit_or_not : (text : ObjectText) (r : Result BStr DecodeError) → IfOk r (λ t. SpellsMessage text (bstr_bytes t)) → IfErr r (SpellsNone text)
    → ((c : CommitText) × SpellsCommit text.hash text.bytes c) ⊎ ((at : ℕ) × IsNoCommit text.hash text.bytes at)
commit_or_not text (Ok t) p q = inl (p.commit, p.spells)
commit_or_not text (Err e) p q = inr (q.at, q.none)

pub one_bad_commit : (hash : HashKind) (bytes : List ℕ) (a b : ℕ) → IsNoCommit hash bytes a → IsNoCommit hash bytes b → a ≡ b
one_bad_commit hash bytes a b p q = omega (arith, p.place, q.place, p.longest q.front q.good, q.longest p.front p.good)

pub tag_or_not : (hash : HashKind) (bytes : List ℕ) (r : Result TagRef DecodeError) → IfOk r (λ t. SpellsTag hash bytes (tag_text t)) → IfErr r (RefusesTag hash bytes)
    → ((t : TagText) × SpellsTag hash bytes t) ⊎ ((at : ℕ) × IsNoTag hash bytes at)
tag_or_not hash bytes (Ok t) p q = inl (tag_text t, p)
tag_or_not hash bytes (Err e) p q = inr (q.0, q.2)

pub one_bad_tag : (hash : HashKind) (bytes : List ℕ) (a b : ℕ) → IsNoTag hash bytes a → IsNoTag hash bytes b → a ≡ b
one_bad_tag hash bytes a b p q = omega (arith, p.place, q.place, p.longest q.front q.good, q.longest p.front p.good)
