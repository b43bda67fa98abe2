use Rattle.std.specs.Option.{option_map}
use Rattle.gx_object.proofs.TagSignatures.{reads_signed, reads_unsigned, ends_signed, ends_unsigned}
use Rattle.gx_object.proofs.tag.lines.last_signature.Goals as goal

pub loop-behind-preserved-then-opens_signature : goal.loop-behind-preserved-then-opens_signature
loop-behind-preserved-then-opens_signature c = reads_signed c.args.text.now c.loop-behind.rest.now c.in-Some.field-0-0.now c.in-Some.behind.now (option_map (λ s. s.now) c.loop-behind.last) c.loop-behind.invariant c.in-Some.ensures c.if-opens_signature.ensures

pub loop-behind-preserved : goal.loop-behind-preserved
loop-behind-preserved c = reads_unsigned c.args.text.now c.loop-behind.rest.now c.in-Some.field-0-0.now c.in-Some.behind.now (option_map (λ s. s.now) c.loop-behind.last) c.loop-behind.invariant c.in-Some.ensures c.if-opens_signature.ensures

pub returns-then-opens_signature-2 : goal.returns-then-opens_signature-2
returns-then-opens_signature-2 c = ends_signed c.args.text.now c.loop-behind.rest.now (option_map (λ s. s.now) c.loop-behind.last) c.loop-behind.invariant c.in_default.ensures c.if-opens_signature-2.ensures

pub returns-else-opens_signature-2 : goal.returns-else-opens_signature-2
returns-else-opens_signature-2 c = ends_unsigned c.args.text.now c.loop-behind.rest.now (option_map (λ s. s.now) c.loop-behind.last) c.loop-behind.invariant c.in_default.ensures c.if-opens_signature-2.ensures
