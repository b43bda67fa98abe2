use Rattle.std.proofs.Common.{◌≡◌, sym, ap, refl, subst, rules, to_z, of_z, w64}
use Rattle.gx_object.specs.CommitSpelling.{CommitText, commit_text, SpellsCommit}
use Rattle.gx_object.specs.PartsRead.{PartsRead}
use Rattle.gx_object.specs.TimeSpelling.{BeginsWithSeconds}
use Rattle.gx_walk.specs.History.{Node}
use Rattle.gx_walk.proofs.ReadLemmas.{never_spelled, undecodable, read_is}
use Rattle.gx_walk.proofs.commit.read.read_commit.Goals as goal

pub returns-in-Ok-clause-ok : goal.returns-in-Ok-clause-ok
returns-in-Ok-clause-ok g c =
    let s = g.S.Meanings.state c.args.store.now in
    let text : CommitText = commit_text c.in-Ok.commit in
    let slice = c.as_slice-slice.result.now in
    let it = c.from_bytes-in-Ok.result in
    let made = c.from_bytes-in-Ok.ensures in
    let bytes : it.text.bytes ≡ slice = ap (λ (p : PartsRead). p.text.bytes) made in
    let hash : it.text.hash ≡ c.hash_kind-hash.result = ap (λ (p : PartsRead). p.text.hash) made in
    let there : SpellsCommit it.text.hash it.text.bytes text =
    subst (λ b. SpellsCommit it.text.hash b text) (sym bytes) (subst (λ k. SpellsCommit k slice text) (sym hash) c.in-Ok.ensures.ok) in
    let same : c.seconds.result ≡ to_z w64 (of_z w64 c.seconds.result) = search rules in
    let node : Node = record { parents = c.in_ok-parents-in-Ok.parents; time = to_z w64 (of_z w64 c.seconds.result) } in
    read_is s c.args.id c.hash_kind-hash.result c.in_ok-bytes.bytes slice c.from_bytes.result c.in-Ok.commit node c.in_ok-bytes.ensures.ok c.hash_kind-hash.ensures c.as_slice-slice.ensures c.in-Ok.is c.in-Ok.ensures.ok c.from_bytes.ensures.only (c.in_ok-parents-in-Ok.ensures text there) (subst (BeginsWithSeconds text.committer.time) same c.seconds.ensures)

pub returns-clause-causes : goal.returns-clause-causes
returns-clause-causes g c =
    let s = g.S.Meanings.state c.args.store.now in (
      refl,
      undecodable s c.args.id c.in_ok-bytes.bytes c.in_ok-bytes.ensures.ok
          (never_spelled c.from_bytes.result s.hash c.hash_kind-hash.result c.in_ok-bytes.bytes c.as_slice-slice.result.now c.in-Err-Decode.field-0 c.in-Err-Decode.field-0-0 c.hash_kind-hash.ensures c.as_slice-slice.ensures c.in-Err-Decode.is c.in-Err-Decode.field-0-is c.from_bytes.ensures.only),
    )
