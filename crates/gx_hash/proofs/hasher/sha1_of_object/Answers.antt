use Rattle.std.proofs.Common.{◌∙◌, ap, append_assoc}
use Rattle.sha1.specs.Sha1.{sha1}
use Rattle.gx_hash.proofs.hasher.sha1_of_object.Goals as goal

-- what was fed piece by piece is the whole
pub returns : goal.returns
returns c =
    let fed = c.finalize.ensures _ (c.update-5.ensures _ (c.update-4.ensures _ (c.update-3.ensures _ (c.update-2.ensures _ (c.update.ensures _ c.new-hasher.ensures))))) in
    let text = c.as_bytes.ensures.value ∙ c.format.ensures.text in
    fed ∙ ap sha1 (simp (append_assoc, text))
