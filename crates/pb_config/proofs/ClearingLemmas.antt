-- To clear all CAPTURE is to assign No to each of them.
use Rattle.std.proofs.Common.{refl, arith}
use Rattle.std.specs.List.{AllByRecursion}
use Rattle.pb_fields.specs.Catalogue.{catalogue}
use Rattle.pb_fields.specs.Labels.{label_list}
use Rattle.pb_fields.specs.Spelled.{spelled}
use Rattle.pb_config.specs.Assigning.{raw_given}
use Rattle.pb_config.specs.Capturing.{IsCapture, capture_slots}

pub all_captures : AllByRecursion IsCapture capture_slots
unfolding capture_slots catalogue label_list raw_given spelled
all_captures = (
  record { in_catalogue = record { in_blocks = omega arith; from_one = omega arith; in_count = omega arith; in_fields = omega arith; in_attributes = omega arith }; told = λ s. refl; left = λ s. refl; quiet = refl },
  (
    record { in_catalogue = record { in_blocks = omega arith; from_one = omega arith; in_count = omega arith; in_fields = omega arith; in_attributes = omega arith }; told = λ s. refl; left = λ s. refl; quiet = refl },
    (
      record { in_catalogue = record { in_blocks = omega arith; from_one = omega arith; in_count = omega arith; in_fields = omega arith; in_attributes = omega arith }; told = λ s. refl; left = λ s. refl; quiet = refl },
      (
        record { in_catalogue = record { in_blocks = omega arith; from_one = omega arith; in_count = omega arith; in_fields = omega arith; in_attributes = omega arith }; told = λ s. refl; left = λ s. refl; quiet = refl },
        (
          record { in_catalogue = record { in_blocks = omega arith; from_one = omega arith; in_count = omega arith; in_fields = omega arith; in_attributes = omega arith }; told = λ s. refl; left = λ s. refl; quiet = refl },
          (
            record { in_catalogue = record { in_blocks = omega arith; from_one = omega arith; in_count = omega arith; in_fields = omega arith; in_attributes = omega arith }; told = λ s. refl; left = λ s. refl; quiet = refl },
            (
              record { in_catalogue = record { in_blocks = omega arith; from_one = omega arith; in_count = omega arith; in_fields = omega arith; in_attributes = omega arith }; told = λ s. refl; left = λ s. refl; quiet = refl },
              (
                record { in_catalogue = record { in_blocks = omega arith; from_one = omega arith; in_count = omega arith; in_fields = omega arith; in_attributes = omega arith }; told = λ s. refl; left = λ s. refl; quiet = refl },
                (
                  record { in_catalogue = record { in_blocks = omega arith; from_one = omega arith; in_count = omega arith; in_fields = omega arith; in_attributes = omega arith }; told = λ s. refl; left = λ s. refl; quiet = refl },
                  (
                    record { in_catalogue = record { in_blocks = omega arith; from_one = omega arith; in_count = omega arith; in_fields = omega arith; in_attributes = omega arith }; told = λ s. refl; left = λ s. refl; quiet = refl },
                    (
                      record { in_catalogue = record { in_blocks = omega arith; from_one = omega arith; in_count = omega arith; in_fields = omega arith; in_attributes = omega arith }; told = λ s. refl; left = λ s. refl; quiet = refl },
                      (
                        record { in_catalogue = record { in_blocks = omega arith; from_one = omega arith; in_count = omega arith; in_fields = omega arith; in_attributes = omega arith }; told = λ s. refl; left = λ s. refl; quiet = refl },
                        (
                          record { in_catalogue = record { in_blocks = omega arith; from_one = omega arith; in_count = omega arith; in_fields = omega arith; in_attributes = omega arith }; told = λ s. refl; left = λ s. refl; quiet = refl },
                          (
                            record { in_catalogue = record { in_blocks = omega arith; from_one = omega arith; in_count = omega arith; in_fields = omega arith; in_attributes = omega arith }; told = λ s. refl; left = λ s. refl; quiet = refl },
                            (
                              record { in_catalogue = record { in_blocks = omega arith; from_one = omega arith; in_count = omega arith; in_fields = omega arith; in_attributes = omega arith }; told = λ s. refl; left = λ s. refl; quiet = refl },
                              (
                                record { in_catalogue = record { in_blocks = omega arith; from_one = omega arith; in_count = omega arith; in_fields = omega arith; in_attributes = omega arith }; told = λ s. refl; left = λ s. refl; quiet = refl },
                                (
                                  record { in_catalogue = record { in_blocks = omega arith; from_one = omega arith; in_count = omega arith; in_fields = omega arith; in_attributes = omega arith }; told = λ s. refl; left = λ s. refl; quiet = refl },
                                  (
                                    record { in_catalogue = record { in_blocks = omega arith; from_one = omega arith; in_count = omega arith; in_fields = omega arith; in_attributes = omega arith }; told = λ s. refl; left = λ s. refl; quiet = refl },
                                    (
                                      record { in_catalogue = record { in_blocks = omega arith; from_one = omega arith; in_count = omega arith; in_fields = omega arith; in_attributes = omega arith }; told = λ s. refl; left = λ s. refl; quiet = refl },
                                      (
                                        record { in_catalogue = record { in_blocks = omega arith; from_one = omega arith; in_count = omega arith; in_fields = omega arith; in_attributes = omega arith }; told = λ s. refl; left = λ s. refl; quiet = refl },
                                        tt,
                                      ),
                                    ),
                                  ),
                                ),
                              ),
                            ),
                          ),
                        ),
                      ),
                    ),
                  ),
                ),
              ),
            ),
          ),
        ),
      ),
    ),
  ),
)
