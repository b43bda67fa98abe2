use Rattle.std.proofs.Common.{refl}
use Rattle.std.specs.Option.{option_map}
use Rattle.bstr.specs.BStr.{bstr_bytes}
use Rattle.gx_object.specs.TagFronts.{Target, TargetKind, Name, Tagger, HasName, HasTargetKind}
use Rattle.gx_object.proofs.TagSteps.{untagged, wrong_by_tagger}
use Rattle.gx_object.proofs.tag.fields.read_tagger.Goals as goal

pub returns-in_default : goal.returns-in_default
returns-in_default c =
    wrong_by_tagger c.args.hash Target c.args.bytes.now c.args.bytes.now c.bad_line.result (λ e. cc) (λ e. cc) refl c.in_default.ensures c.bad_line.ensures

pub returns-in_default-type_line : goal.returns-in_default-type_line
returns-in_default-type_line c =
    wrong_by_tagger c.args.hash TargetKind c.args.bytes.now c.in-Some.rest.now c.bad_line-in_default-type_line.result (λ e. cc) (λ e. cc) (bstr_bytes c.in-Some.field-0-0, c.in-Some.ensures) c.in_default-type_line.ensures c.bad_line-in_default-type_line.ensures

pub returns-in_default-name_line : goal.returns-in_default-name_line
returns-in_default-name_line c =
    let kind : HasTargetKind c.args.hash c.args.bytes.now (bstr_bytes c.in-Some.field-0-0) c.in-Some-type_line.field-0-0 c.in-Some-type_line.rest.now = (c.in-Some.rest.now, c.in-Some.ensures, c.in-Some-type_line.ensures) in
    wrong_by_tagger c.args.hash Name c.args.bytes.now c.in-Some-type_line.rest.now c.bad_line-in_default-name_line.result (λ e. cc) (λ e. cc) (bstr_bytes c.in-Some.field-0-0, c.in-Some-type_line.field-0-0, kind) c.in_default-name_line.ensures c.bad_line-in_default-name_line.ensures

pub returns-in-Some-identity_line : goal.returns-in-Some-identity_line
returns-in-Some-identity_line c =
    let name : HasName c.args.hash c.args.bytes.now (bstr_bytes c.in-Some.field-0-0) c.in-Some-type_line.field-0-0 (bstr_bytes c.in-Some-name_line.field-0-0) c.in-Some-name_line.rest.now = (c.in-Some-type_line.rest.now, (c.in-Some.rest.now, c.in-Some.ensures, c.in-Some-type_line.ensures), c.in-Some-name_line.ensures) in
    (bstr_bytes c.in-Some.field-0-0, c.in-Some-type_line.field-0-0, bstr_bytes c.in-Some-name_line.field-0-0, c.in-Some-identity_line.field-0-1.now, (c.in-Some-name_line.rest.now, name, c.in-Some-identity_line.ensures))

pub returns-in_default-body : goal.returns-in_default-body
returns-in_default-body c =
    let name : HasName c.args.hash c.args.bytes.now (bstr_bytes c.in-Some.field-0-0) c.in-Some-type_line.field-0-0 (bstr_bytes c.in-Some-name_line.field-0-0) c.in-Some-name_line.rest.now = (c.in-Some-type_line.rest.now, (c.in-Some.rest.now, c.in-Some.ensures, c.in-Some-type_line.ensures), c.in-Some-name_line.ensures) in
    wrong_by_tagger c.args.hash Tagger c.args.bytes.now c.in-Some-name_line.rest.now c.bad_line-in_default-body.result (λ e. cc) (λ e. cc) (bstr_bytes c.in-Some.field-0-0, c.in-Some-type_line.field-0-0, bstr_bytes c.in-Some-name_line.field-0-0, name)
    (c.in_default-identity_line.ensures, c.in_default-body.ensures) c.bad_line-in_default-body.ensures

pub returns : goal.returns
returns c =
    let name : HasName c.args.hash c.args.bytes.now (bstr_bytes c.in-Some.field-0-0) c.in-Some-type_line.field-0-0 (bstr_bytes c.in-Some-name_line.field-0-0) c.in-Some-name_line.rest.now = (c.in-Some-type_line.rest.now, (c.in-Some.rest.now, c.in-Some.ensures, c.in-Some-type_line.ensures), c.in-Some-name_line.ensures) in
    untagged c.args.hash c.args.bytes.now c.in-Some-name_line.rest.now (bstr_bytes c.in-Some.field-0-0) c.in-Some-type_line.field-0-0 (bstr_bytes c.in-Some-name_line.field-0-0) (bstr_bytes c.in-Some-body.field-0.0) (option_map bstr_bytes c.in-Some-body.field-0.1) name
    c.in_default-identity_line.ensures c.in-Some-body.ensures
