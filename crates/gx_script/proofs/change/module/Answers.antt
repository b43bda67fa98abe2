use Rattle.std.proofs.Common.{sym, subst, List, ℕ}
use Rattle.gx_edit.specs.declared.path_edit.PathEdit.TheVariants.{Module}
use Rattle.gx_script.specs.Changes.{SaysEdit}
use Rattle.gx_script.proofs.ChangeLemmas.{no_module, no_module_id, no_module_null, is_module}
use Rattle.gx_script.proofs.change.module.Goals as goal

pub returns-in_default : goal.returns-in_default
returns-in_default c = no_module c.args.hash c.args.line.now c.in_default.ensures

pub returns-in_default-object_id : goal.returns-in_default-object_id
returns-in_default-object_id c = no_module_id c.args.hash c.args.line.now c.in-Some.hex.now c.in-Some.path.now c.in-Some.ensures c.in_default-object_id.ensures

pub returns-then-is_null : goal.returns-then-is_null
returns-then-is_null c = no_module_null c.args.hash c.args.line.now c.in-Some.hex.now c.in-Some.path.now c.in-Some-object_id.id c.in-Some.ensures c.in-Some-object_id.ensures.0 c.in-Some-object_id.ensures.1 (c.is_null.ensures.0 c.if-is_null.true)

pub returns : goal.returns
returns c = subst (λ (p : List ℕ). SaysEdit c.args.hash (Module p c.in-Some-object_id.id) c.args.line.now) (sym c.in_ok-path.ensures) (is_module c.args.hash c.args.line.now c.in-Some.hex.now c.in-Some.path.now c.in-Some-object_id.id c.requires c.in-Some.ensures c.in-Some-object_id.ensures.0 c.in-Some-object_id.ensures.1 (λ n. let h = c.if-is_null.ensures.1 n in cc))
