use Rattle.std.proofs.Common.{◌≤◌, sym, length}
use Rattle.gx_hash.specs.PrefixDigits.{room_for}
use Rattle.gx_hash.proofs.PrefixLemmas.{padded_front}
use Rattle.gx_hash.proofs.prefix.read_padded.Goals as goal

pub returns : goal.returns
returns c =
    let fits : length c.args.digits.now ≤ room_for (length c.args.digits.now) = rw (sym c.room_for.ensures.room) c.room_for.ensures.fits in
    let most : room_for (length c.args.digits.now) ≤ 64 = rw (sym c.room_for.ensures.room) c.room_for.ensures.most in
    rw (sym (padded_front c.copy_from_slice.new.self c.args.digits.now (room_for (length c.args.digits.now)) c.copy_from_slice.ensures.after fits most), sym c.room_for.ensures.room) c.from_hex.ensures
