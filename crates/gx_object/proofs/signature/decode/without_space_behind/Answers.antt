use Rattle.std.proofs.Common.{refl}
use Rattle.std.proofs.lemmas.Bool.Decides.{Decides-eqb}
use Rattle.std.proofs.lemmas.Slice.Eq.{strip_suffix_is}
use Rattle.gx_object.proofs.Identities.{drops_behind}
use Rattle.gx_object.proofs.signature.decode.without_space_behind.Goals as goal

pub returns : goal.returns
returns c =
    let space = c.as_slice.result.now in
    rw c.unwrap_or.ensures (drops_behind _ space c.args.text _ refl c.as_slice.ensures (strip_suffix_is Decides-eqb c.args.text.now space _ c.strip_suffix.ensures.cases))
