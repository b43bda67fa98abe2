use Rattle.std.proofs.Common.{◌∙◌, ap}
use Rattle.gx_object.specs.Message.{body_of, title_of}
use Rattle.gix.proofs.types.Commit.message.Goals as goal

pub returns-in-Ok-clause-commit : goal.returns-in-Ok-clause-commit
returns-in-Ok-clause-commit g c commit spells =
    let text = c.as_bytes.ensures ∙ c.in-Ok.ensures.commit commit spells in
    (c.from_bytes.ensures.title ∙ ap title_of text, c.from_bytes.ensures.body ∙ ap body_of text)
