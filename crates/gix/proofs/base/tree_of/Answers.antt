use Rattle.std.proofs.Common.{◌∙◌}
use Rattle.gx_object.specs.declared.kind.Kind.TheVariants as kind
use Rattle.gx_object.specs.CommitSpelling.{commit_text}
use Rattle.gix.proofs.BaseLemmas.{never_spelled, misspelt, has_tree}
use Rattle.gix.proofs.base.tree_of.Goals as goal

pub returns-in-Err-Decode-clause-err : goal.returns-in-Err-Decode-clause-err
returns-in-Err-Decode-clause-err g c =
    let s = g.S.Meanings.state c.args.store.now in
    misspelt s kind.Commit c.args.commit c.in_ok-bytes.bytes c.in_ok-bytes.ensures.ok
    (never_spelled c.from_bytes.result s.hash c.hash_kind-hash.result c.in_ok-bytes.bytes c.as_slice.result.now c.in-Err-Decode.field-0 c.in-Err-Decode.field-0-0 c.hash_kind-hash.ensures c.as_slice.ensures c.in-Err-Decode.is c.in-Err-Decode.field-0-is c.from_bytes.ensures.only)

pub returns-clause-ok : goal.returns-clause-ok
returns-clause-ok g c =
    let s = g.S.Meanings.state c.args.store.now in
    has_tree s.content s.hash c.hash_kind-hash.result c.args.commit c.from_digits-tree.result c.in_ok-bytes.bytes c.as_slice.result.now (commit_text c.in-Ok.found) c.in_ok-bytes.ensures.ok c.hash_kind-hash.ensures c.as_slice.ensures c.in-Ok.ensures.ok
    (c.from_digits-tree.ensures.digits ∙ c.as_bytes.ensures) c.spellings_read_back.ensures.digits
