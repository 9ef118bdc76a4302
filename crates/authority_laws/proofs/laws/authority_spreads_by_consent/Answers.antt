use Rattle.authority_laws.proofs.Consent.{sharing_by_consent, offers_by_offerer}
use Rattle.authority_laws.proofs.SharingStays.{sharing_stays}
use Rattle.authority_laws.proofs.laws.authority_spreads_by_consent.Goals as goal

pub returns-clause-sharing : goal.returns-clause-sharing
returns-clause-sharing c = sharing_by_consent

pub returns-clause-stays : goal.returns-clause-stays
returns-clause-stays c = sharing_stays

pub returns-clause-offers : goal.returns-clause-offers
returns-clause-offers c = offers_by_offerer
