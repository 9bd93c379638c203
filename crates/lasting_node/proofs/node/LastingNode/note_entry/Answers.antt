use Rattle.std.proofs.Common.{sym, ap, subst}
use Rattle.std.proofs.lemmas.Result.{on_ok_weaker}
use Rattle.logger_wire.specs.Value.{body_of}
use Rattle.lasting_lives.specs.Noted.{NotesEntry}
use Rattle.lasting_node.specs.Turns.{known_of}
use Rattle.lasting_node.proofs.Noted.{no_entry, notes_none}
use Rattle.lasting_node.proofs.node.LastingNode.note_entry.Goals as goal

pub returns-in-Entry-clause-notes : goal.returns-in-Entry-clause-notes
returns-in-Entry-clause-notes g c =
    on_ok_weaker c.note_fetched.result
    (λ t at st. subst (λ b. NotesEntry b at (known_of c.args.self.now) (known_of c.note_fetched.new.self)) (sym (ap body_of c.in-Entry.is)) (t at st)) c.note_fetched.ensures.notes

pub returns-in_default : goal.returns-in_default
returns-in_default g c = record { notes = λ at st. no_entry c.args.m.now.body c.in_default.not-Entry at (known_of c.args.self.now); only = notes_none c.args.self.now }
