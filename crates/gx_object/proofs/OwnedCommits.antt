-- A tag that was read has an id.
use Rattle.std.proofs.Common.{List, ℕ, Result, Ok, Err, IfOk, MatchResult}
use Rattle.gx_hash.specs.declared.kind.HashKind.{HashKind}
use Rattle.gx_object.specs.declared.decode.DecodeError.{DecodeError}
use Rattle.gx_object.specs.declared.tag.decode.TagRef.{TagRef}
use Rattle.gx_object.specs.TagSpelling.{SpellsTag, tag_text}
use Rattle.gx_object.specs.OwnedTag.{IsIdText}

pub tag_id : (hash : HashKind) (bytes : List ℕ) (refuses : DecodeError → Type 0) (result : Result TagRef DecodeError) → MatchResult result (λ t. SpellsTag hash bytes (tag_text t)) refuses → IfOk result (λ t. IsIdText (tag_text t).target)
tag_id hash bytes refuses (Ok t) spells = (hash, spells.target_id)
tag_id hash bytes refuses (Err e) spells = tt
