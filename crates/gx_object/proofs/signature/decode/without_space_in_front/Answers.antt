use Rattle.std.proofs.Common.{refl}
use Rattle.std.proofs.lemmas.Bool.Decides.{Decides-eqb}
use Rattle.std.proofs.lemmas.Slice.Eq.{strip_prefix_is}
use Rattle.gx_object.proofs.Identities.{drops_in_front}
use Rattle.gx_object.proofs.signature.decode.without_space_in_front.Goals as goal

pub returns : goal.returns
returns c =
    let space = c.as_slice.result.now in
    rw c.unwrap_or.ensures (drops_in_front _ space c.args.text _ refl c.as_slice.ensures (strip_prefix_is Decides-eqb c.args.text.now space _ c.strip_prefix.ensures.cases))
