mod PlaceSteps
