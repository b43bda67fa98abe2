use Rattle.std.proofs.lemmas.Result.{err_from_is_err_and}
use Rattle.gx_script.proofs.FirstLemmas.{whole_line, whole_commit, whole_tag, whole_ref, whole_note, note_cut}
use Rattle.gx_script.proofs.reader.rest.Goals as goal

pub returns-in-OneLine-clause-rest : goal.returns-in-OneLine-clause-rest
returns-in-OneLine-clause-rest g c = rw c.in-OneLine.is (whole_line c.in-OneLine.request _ _)

pub returns-in_err-commit-in-Commit-clause-rest : goal.returns-in_err-commit-in-Commit-clause-rest
returns-in_err-commit-in-Commit-clause-rest g c =
    let p = err_from_is_err_and c.from_residual.result c.from_residual.ensures.1 in
    rw (p.1, p.2, c.in-Commit.is) c.in_err-commit-in-Commit.ensures.commit

pub returns-in_ok-commit-in-Commit-clause-rest : goal.returns-in_ok-commit-in-Commit-clause-rest
returns-in_ok-commit-in-Commit-clause-rest g c = rw c.in-Commit.is (whole_commit c.in-Commit.name _ _ _ _ _ c.in_ok-commit-in-Commit.ensures.commit)

pub returns-in_err-tagger-in-Tag-clause-rest : goal.returns-in_err-tagger-in-Tag-clause-rest
returns-in_err-tagger-in-Tag-clause-rest g c =
    let p = err_from_is_err_and c.from_residual-in_err-tagger-in-Tag.result c.from_residual-in_err-tagger-in-Tag.ensures.1 in
    rw (p.1, p.2, c.in-Tag.is) c.in_err-tagger-in-Tag.ensures.described

pub returns-in_ok-tagger-in-Tag-clause-rest : goal.returns-in_ok-tagger-in-Tag-clause-rest
returns-in_ok-tagger-in-Tag-clause-rest g c = rw c.in-Tag.is (whole_tag c.in-Tag.name c.in-Tag.target c.in-Tag.kind _ _ _ _ _ _ c.in_ok-tagger-in-Tag.ensures.described)

pub returns-in_err-committer-in-Ref-clause-rest : goal.returns-in_err-committer-in-Ref-clause-rest
returns-in_err-committer-in-Ref-clause-rest g c =
    let p = err_from_is_err_and c.from_residual-in_err-committer-in-Ref.result c.from_residual-in_err-committer-in-Ref.ensures.1 in
    rw (p.1, p.2, c.in-Ref.is) c.in_err-committer-in-Ref.ensures.described

pub returns-in_ok-committer-in-Ref-clause-rest : goal.returns-in_ok-committer-in-Ref-clause-rest
returns-in_ok-committer-in-Ref-clause-rest g c = rw c.in-Ref.is (whole_ref c.in-Ref.name c.in-Ref.target c.in-Ref.expect _ _ _ _ _ _ c.in_ok-committer-in-Ref.ensures.described)

pub returns-in_err-note-in-NoteSet-clause-rest : goal.returns-in_err-note-in-NoteSet-clause-rest
returns-in_err-note-in-NoteSet-clause-rest g c =
    let p = err_from_is_err_and c.from_residual-in_err-note-in-NoteSet.result c.from_residual-in_err-note-in-NoteSet.ensures.1 in
    let fits = rw c.in-NoteSet.is at c.requires in
    rw (p.1, p.2, c.in-NoteSet.is) (note_cut _ _ _ _ _ _ _ fits.1 c.in_err-note-in-NoteSet.ensures.block)

pub returns-in_ok-note-in-NoteSet-clause-rest : goal.returns-in_ok-note-in-NoteSet-clause-rest
returns-in_ok-note-in-NoteSet-clause-rest g c =
    let fits = rw c.in-NoteSet.is at c.requires in
    rw c.in-NoteSet.is (whole_note c.in-NoteSet.reference c.in-NoteSet.object c.in-NoteSet.size _ _ _ _ _ fits.1 c.in_ok-note-in-NoteSet.ensures.block)
