use Rattle.link_parts.proofs.reporting.write_end.Goals as goal

pub returns-in-Usage-clause-front : goal.returns-in-Usage-clause-front
returns-in-Usage-clause-front g c = rw c.in-Usage.is c.write_all.ensures.front

pub returns-in-Reset-clause-whole : goal.returns-in-Reset-clause-whole
returns-in-Reset-clause-whole g c = rw c.in-Reset.is c.write_all-in-Reset.ensures.whole

pub returns-in-Reset-clause-front : goal.returns-in-Reset-clause-front
returns-in-Reset-clause-front g c = rw c.in-Reset.is c.write_all-in-Reset.ensures.front

pub returns-in-ReadFault-clause-whole : goal.returns-in-ReadFault-clause-whole
returns-in-ReadFault-clause-whole g c = rw c.in-ReadFault.is c.write_all-in-ReadFault.ensures.whole

pub returns-in-ReadFault-clause-front : goal.returns-in-ReadFault-clause-front
returns-in-ReadFault-clause-front g c = rw c.in-ReadFault.is c.write_all-in-ReadFault.ensures.front

pub returns-in-ChildFault-clause-whole : goal.returns-in-ChildFault-clause-whole
returns-in-ChildFault-clause-whole g c = rw c.in-ChildFault.is c.write_all-in-ChildFault.ensures.whole

pub returns-in-ChildFault-clause-front : goal.returns-in-ChildFault-clause-front
returns-in-ChildFault-clause-front g c = rw c.in-ChildFault.is c.write_all-in-ChildFault.ensures.front
