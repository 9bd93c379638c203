use Rattle.schedule_text.proofs.FleetingTexts.{spelled, fleeting}
use Rattle.schedule_text.proofs.fleeting.fleeting_texts_spell_schedules.Goals as goal

pub returns-clause-spelled : goal.returns-clause-spelled
returns-clause-spelled c = spelled

pub returns-clause-fleeting : goal.returns-clause-fleeting
returns-clause-fleeting c = fleeting
