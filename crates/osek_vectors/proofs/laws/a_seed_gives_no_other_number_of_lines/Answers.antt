use Rattle.osek_vectors.specs.{Draws.{first_state}, OilTexts.{oil_text}, CodeTexts.{code_text}}
use Rattle.osek_vectors.proofs.TextLines.{HasLines-oil, HasLines-code, HasLines-events}
use Rattle.osek_vectors.proofs.laws.a_seed_gives_no_other_number_of_lines.Goals as goal

pub returns-clause-oil : goal.returns-clause-oil
returns-clause-oil c seed n positive few = HasLines-oil n few (first_state seed)

pub returns-clause-code : goal.returns-clause-code
returns-clause-code c seed n positive few = HasLines-code n positive few (oil_text n (first_state seed)).state

pub returns-clause-events : goal.returns-clause-events
returns-clause-events c seed n positive few = HasLines-events n (code_text n (oil_text n (first_state seed)).state).state
