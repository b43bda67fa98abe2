use Rattle.gix.specs.Finds.{exists_query, header_query, try_header_query}
use Rattle.gix.specs.Shortening.{shorten_query}
use Rattle.gix.proofs.AskingLemmas.{asking_lawful}
use Rattle.gix.proofs.object_laws.finds_are_lawful.Goals as goal

pub returns-clause-header : goal.returns-clause-header
returns-clause-header c = λ id. asking_lawful (header_query id)

pub returns-clause-try_header : goal.returns-clause-try_header
returns-clause-try_header c = λ id. asking_lawful (try_header_query id)

pub returns-clause-exists : goal.returns-clause-exists
returns-clause-exists c = λ id. asking_lawful (exists_query id)

pub returns-clause-shorten : goal.returns-clause-shorten
returns-clause-shorten c = λ id. asking_lawful (shorten_query id)
