use Rattle.journal_laws.proofs.LifeFront.{moment, unreplaced}
use Rattle.journal_laws.proofs.an_unanswered_round_is_a_moment.Goals as goal

pub returns-clause-unanswered : goal.returns-clause-unanswered
returns-clause-unanswered c = λ start local rounds received cut all unanswered. moment start local rounds received cut all unanswered

pub returns-clause-unreplaced : goal.returns-clause-unreplaced
returns-clause-unreplaced c = λ start local rounds cut all here. unreplaced start local rounds cut all here
