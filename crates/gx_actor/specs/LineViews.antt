-- What contracts see of the parts of a line while it is read.
use Rattle.std.specs.Prelude.{option_map}
use Rattle.bstr.specs.BStr.{bstr_bytes}
use Rattle.gx_actor.specs.declared.mailmap.entry.Entry.{Entry}
use Rattle.gx_actor.specs.declared.mailmap.parse.EntryRef.{EntryRef}
use Rattle.gx_actor.specs.declared.mailmap.parse.Part.{Part}
use Rattle.gx_actor.specs.LineReading.{LinePart}

-- the texts of a part, wherever they are kept (ours)
abbrev pub part_text : Part → LinePart
part_text part = record { name = bstr_bytes part.name; email = bstr_bytes part.email; rest = bstr_bytes part.rest }

-- the texts of an entry, wherever they are kept (ours)
abbrev pub entry_text : EntryRef → Entry
entry_text entry = record {
  new_name = option_map bstr_bytes entry.new_name;
  new_email = option_map bstr_bytes entry.new_email;
  old_name = option_map bstr_bytes entry.old_name;
  old_email = bstr_bytes entry.old_email;
}
