mod ParamSteps
