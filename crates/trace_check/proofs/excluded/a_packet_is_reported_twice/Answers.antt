use Rattle.trace_check.proofs.excluded.a_packet_is_reported_twice.Goals as goal

pub returns : goal.returns
returns g c = λ events trace event lines reported leads.
    let t = c.read_packet_lines.ensures.packets events trace event lines reported leads in (t.sent, t.reported)
