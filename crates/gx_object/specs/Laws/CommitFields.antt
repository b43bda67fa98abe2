-- Which fields of a commit can be written.
use Rattle.std.proofs.Common.{◌≡◌, true}
use Rattle.std.specs.List.{list_all}
use Rattle.gx_object.specs.declared.commit.Commit.{Commit}
use Rattle.gx_object.specs.declared.encode.Field.{Field}
use Rattle.gx_object.specs.declared.encode.Field.TheVariants.{Encoding, HeaderName}
use Rattle.gx_object.specs.Identity.{are_writable}
use Rattle.gx_object.specs.Commit.{is_writable_commit, is_writable_encoding, is_writable_header}

-- a commit can be written where its identities, its encoding and its headers can
pub all_writable : (c : Commit) → ((field : Field) → are_writable c.author c.committer field ≡ true) → is_writable_encoding c.encoding ≡ true → list_all is_writable_header c.extra_headers ≡ true → (field : Field) → is_writable_commit c field ≡ true
all_writable c identities encoding headers Encoding = encoding
all_writable c identities encoding headers HeaderName = headers
all_writable c identities encoding headers field = identities field
