use Rattle.pb_session.proofs.ReadingLemmas.{given_in_whole, session_given}
use Rattle.pb_session.proofs.laws.data_sessions_are_given_whole_acquisitions.Goals as goal

pub returns-clause-takes : goal.returns-clause-takes
returns-clause-takes g c rows before behind takes id line told options legal accepted are its = given_in_whole id rows before behind takes line told options legal accepted are its

pub returns-clause-sessions : goal.returns-clause-sessions
returns-clause-sessions g c rows value pass new id line options ended held holds at begins accepted alone ran =
    session_given id g.V.Server.opening rows value pass new line options at begins accepted alone ended held holds ran
