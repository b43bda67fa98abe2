use Rattle.std.specs.Option.{option_map}
use Rattle.bstr.specs.BStr.{bstr_bytes}
use Rattle.gx_object.specs.IdentitySpelling.{identity_text}
use Rattle.gx_object.proofs.TagRefusals.{refuse_object, refuse_type, refuse_name, refuse_body, spelled}
use Rattle.gx_object.proofs.tag.decode.read_tag.Goals as goal

pub returns-in_default : goal.returns-in_default
returns-in_default c = refuse_object c.args.hash c.args.bytes.now c.bad_line.result c.in_default.ensures c.bad_line.ensures

pub returns-in_default-type_line : goal.returns-in_default-type_line
returns-in_default-type_line c = refuse_type c.args.hash c.args.bytes.now (bstr_bytes c.in-Some.target) c.in-Some.rest.now c.bad_line-in_default-type_line.result c.in-Some.ensures c.in_default-type_line.ensures c.bad_line-in_default-type_line.ensures

pub returns-in_default-name_line : goal.returns-in_default-name_line
returns-in_default-name_line c = refuse_name c.args.hash c.args.bytes.now (bstr_bytes c.in-Some.target) c.in-Some.rest.now c.in-Some-type_line.target_kind c.in-Some-type_line.rest.now c.bad_line-in_default-name_line.result c.in-Some.ensures c.in-Some-type_line.ensures c.in_default-name_line.ensures c.bad_line-in_default-name_line.ensures

pub returns-in_default-body : goal.returns-in_default-body
returns-in_default-body c = refuse_body c.args.hash c.args.bytes.now (bstr_bytes c.in-Some.target) c.in-Some.rest.now c.in-Some-type_line.target_kind c.in-Some-type_line.rest.now (bstr_bytes c.in-Some-name_line.name) c.in-Some-name_line.rest.now (option_map identity_text c.tagger_line.result.0) c.tagger_line.result.1.now c.bad_line-in_default-body.result c.in-Some.ensures c.in-Some-type_line.ensures c.in-Some-name_line.ensures c.tagger_line.ensures c.in_default-body.ensures c.bad_line-in_default-body.ensures

pub returns : goal.returns
returns c = spelled c.args.hash c.args.bytes.now (bstr_bytes c.in-Some.target) c.in-Some.rest.now c.in-Some-type_line.target_kind c.in-Some-type_line.rest.now (bstr_bytes c.in-Some-name_line.name) c.in-Some-name_line.rest.now (option_map identity_text c.tagger_line.result.0) c.tagger_line.result.1.now (bstr_bytes c.in-Some-body.message) (option_map bstr_bytes c.in-Some-body.signature) c.in-Some.ensures c.in-Some-type_line.ensures c.in-Some-name_line.ensures c.tagger_line.ensures c.in-Some-body.ensures
